-- Numbers as digits. Assumes nothing.
use Rattle.std.specs.Prelude.{ℕ, zero, suc, ◌+◌, ◌*◌, ◌-◌, ◌/◌, ◌%◌, Bool, ◌&&◌, cond, List, [], ◌∷◌, ◌++◌, leb, ltb, get_or}
use Prim.Native.Char.{code}

-- 0 to 9
abbrev pub is_digit : ℕ → Bool
is_digit b = leb (code "0") b && leb b (code "9")

-- the number that digits say behind v
abbrev pub value_from : ℕ → List ℕ → ℕ
value_from v [] = v
value_from v (b ∷ bs) = value_from (v * 10 + (b - code "0")) bs

-- the number of the two digits at a place
abbrev pub two_at : List ℕ → ℕ → ℕ
two_at s a = 10 * (get_or s a 0 - code "0") + (get_or s (a + 1) 0 - code "0")

-- the last digit of n, as a byte
abbrev pub digit_of : ℕ → ℕ
digit_of n = code "0" + n % 10

-- the last k digits of n, the most significant first
abbrev pub digits_of : ℕ → ℕ → List ℕ
digits_of zero n = []
digits_of (suc k) n = digits_of k (n / 10) ++ (digit_of n ∷ [])

-- a mark and two digits
abbrev pub marked : ℕ → ℕ → List ℕ
marked m n = m ∷ digits_of 2 n

-- how many digits n has, where it has at most one more than k
abbrev pub width_in : ℕ → ℕ → ℕ
width_in zero n = 1
width_in (suc k) n = cond (ltb n 10) 1 (suc (width_in k (n / 10)))

-- how many digits n has: a number of 64 bits has at most 20
unfoldable pub width_of : ℕ → ℕ
width_of n = width_in 19 n

-- n with no zeros in front
abbrev pub decimal_of : ℕ → List ℕ
decimal_of n = digits_of (width_of n) n
