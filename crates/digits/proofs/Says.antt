-- Digits say their number. Assumes nothing.
use Prim.Native.Nat.{ℕ, zero, suc, ◌+◌, ◌*◌, ◌-◌, ◌/◌, ◌%◌, ◌^◌, ◌≤◌, ◌<◌, min}
use native.Mathlib.Nat.{pow-succ', le_refl}
use native.Mathlib.Numerals.{add-one}
use native.Mathlib.Omega.{arith}
use mathlib.Core.Path.{◌≡◌, refl}
use mathlib.Core.Bool.{Bool, true, false, cond}
use mathlib.Core.Logic.{⊎_elim}
use mathlib.Core.List.{List, [], ◌∷◌, ◌++◌}
use lib.Dec.{ltb}
use lib.ListN.{length, get_or, drop, drop_of_length-le}
use lib.Seq.{drop-cons}
use borrow.Author.Tests.{ltb-true, le-leb}
use Rattle.digits.specs.Digits.{is_digit, value_from, digit_of, digits_of, width_in, width_of, decimal_of}
use Rattle.digits.proofs.Order.{le-or_lt}

-- the number that the digits from i on say behind v
module _ (s : List ℕ) (i v : ℕ) where
  pub value_step : i < length s → value_from v (drop i s) ≡ value_from (v * 10 + (get_or s i 0 - 48)) (drop (i + 1) s)
  value_step h = rw (drop-cons s i 0, add-one)

  pub value_over : length s ≤ i → value_from v (drop i s) ≡ v
  value_over h = rw (drop_of_length-le s h)

-- it is no smaller than v
pub value_least : (v : ℕ) (l : List ℕ) → v ≤ value_from v l
value_least v [] = le_refl v
value_least v (b ∷ bs) =
    let h : v * 10 + (b - 48) ≤ value_from (v * 10 + (b - 48)) bs = value_least (v * 10 + (b - 48)) bs in
    omega arith

-- digits behind a number that is cut off at m, and cut off again, say what they say behind the whole
pub cut_off : (w m : ℕ) (l : List ℕ) → min (value_from (min w m) l) m ≡ min (value_from w l) m
cut_off w m l = ⊎_elim whole cut (le-or_lt w m)
  where
    whole : w ≤ m → min (value_from (min w m) l) m ≡ min (value_from w l) m
    whole h = let same : min w m ≡ w = omega arith in rw same

    cut : m < w → min (value_from (min w m) l) m ≡ min (value_from w l) m
    cut h = let same : min w m ≡ m = omega arith in rw same (omega (arith, value_least m l, value_least w l))

-- one digit more behind others
one_more : (a : List ℕ) (v d : ℕ) → value_from v (a ++ (d ∷ [])) ≡ value_from v a * 10 + (d - 48)
one_more [] v d = refl
one_more (b ∷ a) v d = one_more a (v * 10 + (b - 48)) d

-- k digits say a number that has no more
pub digits_say : (k n : ℕ) → n < 10 ^ k → value_from 0 (digits_of k n) ≡ n
digits_say zero n h = omega arith
digits_say (suc k) n h =
    let more = rw pow-succ' at h in
    let less : n / 10 < 10 ^ k = omega arith in
    let front : value_from 0 (digits_of k (n / 10)) ≡ n / 10 = digits_say k (n / 10) less in
    rw one_more (omega arith)

-- a number has no more digits than are counted
pub wide_enough : (k n : ℕ) → n < 10 ^ suc k → n < 10 ^ width_in k n
wide_enough zero n h = h
wide_enough (suc k) n h = go (ltb n 10) refl (wide_enough k (n / 10))
  where
    go : (b : Bool) → ltb n 10 ≡ b → (n / 10 < 10 ^ suc k → n / 10 < 10 ^ width_in k (n / 10)) → n < 10 ^ cond b 1 (suc (width_in k (n / 10)))
    go true e on = ltb-true n 10 e
    go false e on =
        let more : n < 10 * 10 ^ suc k = rw (pow-succ' 10 (suc k)) at h in
        let less = on (omega arith) in
        rw (pow-succ' 10 (width_in k (n / 10))) (omega arith)

-- and a decimal says its number
pub decimal_says : (n : ℕ) → n < 10 ^ 20 → value_from 0 (decimal_of n) ≡ n
unfolding width_of
decimal_says n h = digits_say (width_of n) n (wide_enough 19 n h)

-- a digit is one
pub digit_is : (n : ℕ) → is_digit (digit_of n) ≡ true
digit_is n = rw (le-leb 48 (48 + n % 10) (omega arith), le-leb (48 + n % 10) 57 (omega arith))

-- two digits of a number say it
pub two_say : (n : ℕ) → n < 100 → 10 * (digit_of (n / 10) - 48) + (digit_of n - 48) ≡ n
two_say n h = omega arith

-- and four
pub four_say :
    (n : ℕ) → n < 10000 →
    100 * (10 * (digit_of (n / 10 / 10 / 10) - 48) + (digit_of (n / 10 / 10) - 48)) + (10 * (digit_of (n / 10) - 48) + (digit_of n - 48)) ≡ n
four_say n h =
    let high : 10 * (digit_of (n / 10 / 10 / 10) - 48) + (digit_of (n / 10 / 10) - 48) ≡ n / 10 / 10 = two_say (n / 10 / 10) (omega arith) in
    rw high (omega arith)
