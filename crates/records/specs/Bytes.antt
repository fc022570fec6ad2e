-- Numbers as bytes, lowest first, at any width.
use Rattle.std.specs.Prelude.{ℕ, zero, suc, ◌+◌, ◌*◌, ◌/◌, ◌%◌, List, [], ◌∷◌}

-- the k low bytes of x: `back` says that num_of (low_first k x) ≡ x where x < 256 ^ k
abbrev pub low_first : ℕ → ℕ → List ℕ
low_first zero x = []
low_first (suc k) x = x % 256 ∷ low_first k (x / 256)

-- the number of a list of bytes
abbrev pub num_of : List ℕ → ℕ
num_of [] = 0
num_of (b ∷ bs) = b + 256 * num_of bs
