-- A number's digits: how many there are, and one digit more in front. Assumes nothing.
use Prim.Native.Nat.{ℕ, zero, suc, ◌+◌, ◌*◌, ◌-◌, ◌/◌, ◌^◌, ◌≤◌, ◌<◌}
use native.Mathlib.Nat.{not-suc-le-zero, one-le-pow, pow-succ'}
use native.Mathlib.Omega.{arith}
use mathlib.Core.Path.{◌≡◌, refl}
use mathlib.Core.Bool.{Bool, true, false, cond}
use mathlib.Core.List.{List, ◌∷◌, ◌++◌}
use lib.Dec.{ltb}
use lib.ListN.{length, length-append}
use lib.Seq.{append_snoc}
use borrow.Author.Tests.{lt-ltb, le-ltb}
use Rattle.digits.specs.Digits.{digit_of, digits_of, width_in, width_of}

-- as many digits as are asked for
pub digits_length : (k n : ℕ) → length (digits_of k n) ≡ k
digits_length zero n = refl
digits_length (suc k) n =
    let shorter : length (digits_of k (n / 10)) ≡ k = digits_length k (n / 10) in
    rw length-append (omega arith)

-- the last digit stands behind the others
pub digits_last :
    (i n : ℕ) (done : List ℕ) → 0 < i → digits_of i n ++ done ≡ digits_of (i - 1) (n / 10) ++ (digit_of n ∷ done)
digits_last zero n done h = absurd (not-suc-le-zero h)
digits_last (suc i) n done h =
    let less : suc i - 1 ≡ i = omega arith in
    rw less (append_snoc (digits_of i (n / 10)) (digit_of n) done)

-- no more digits than are counted
width_most : (k n : ℕ) → width_in k n ≤ suc k
width_most zero n = omega arith
width_most (suc k) n = go (ltb n 10) (width_most k (n / 10))
  where
    go : (b : Bool) → width_in k (n / 10) ≤ suc k → cond b 1 (suc (width_in k (n / 10))) ≤ suc (suc k)
    go true h = omega arith
    go false h = omega arith

-- a number of 64 bits has at most 20 digits
pub width_limit : (n : ℕ) → width_of n ≤ 20
unfolding width_of
width_limit n = width_most 19 n

-- and at least one
pub width_some : (k n : ℕ) → 0 < width_in k n
width_some zero n = omega arith
width_some (suc k) n = go (ltb n 10)
  where
    go : (b : Bool) → 0 < cond b 1 (suc (width_in k (n / 10)))
    go true = omega arith
    go false = omega arith

-- a number below a power of ten has no more digits than zeros stand behind the power's one
pub width_fits : (k j n : ℕ) → n < 10 ^ suc j → width_in k n ≤ suc j
width_fits zero j n h = omega arith
width_fits (suc k) zero n h = rw (lt-ltb n 10 h) (omega arith)
width_fits (suc k) (suc j) n h =
    let all : n < 10 * 10 ^ suc j = rw (pow-succ' 10 (suc j)) at h in
    go (ltb n 10) (width_fits k j (n / 10) (omega arith))
  where
    go : (b : Bool) → width_in k (n / 10) ≤ suc j → cond b 1 (suc (width_in k (n / 10))) ≤ suc (suc j)
    go true e = omega arith
    go false e = omega arith

-- one that is not below it has more
pub width_exceeds : (k j n : ℕ) → j ≤ k → 10 ^ j ≤ n → j < width_in k n
width_exceeds k zero n l h = width_some k n
width_exceeds zero (suc j) n l h = absurd (omega arith)
width_exceeds (suc k) (suc j) n l h =
    let all : 10 * 10 ^ j ≤ n = rw (pow-succ' 10 j) at h in
    let many : 10 ≤ n = omega (arith, one-le-pow j 10 (omega arith)) in
    let less : j < width_in k (n / 10) = width_exceeds k j (n / 10) (omega arith) (omega arith) in
    rw (le-ltb n 10 many) (omega arith)

-- a number at least a power of ten, and below the next, has one digit more than the power has zeros
pub width_log : (n k : ℕ) → k < 20 → 10 ^ k ≤ n → n < 10 * 10 ^ k → width_of n ≡ k + 1
unfolding width_of
width_log n k l low high =
    let more = rw (← (pow-succ' 10 k)) at high in
    omega (arith, width_fits 19 k n more, width_exceeds 19 k n (omega arith) low)
