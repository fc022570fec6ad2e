-- Numbers in bytes: the one law, over the width, that a number is read back, and that bytes are those of their number.
use Prim.Native.Nat.{ℕ, zero, suc, ◌+◌, ◌*◌, ◌/◌, ◌%◌, ◌^◌, ◌≤◌, ◌<◌}
use native.Mathlib.Omega.{arith}
use native.Mathlib.Nat.{pow-succ'}
use mathlib.Core.Path.{◌≡◌, refl}
use mathlib.Core.List.{List, [], ◌∷◌}
use lib.ListN.{length, take, get_or}
use Rattle.records.specs.Bytes.{low_first, num_of}

-- a number is read back from its bytes, at any width
pub back : (k x : ℕ) → x < 256 ^ k → num_of (low_first k x) ≡ x
back zero x h = omega arith
back (suc k) x h =
    let wide : x < 256 * 256 ^ k = rw pow-succ' at h in
    omega (arith, back k (x / 256) (omega arith))

-- a list of bytes
abbrev pub AreBytes : List ℕ → Type 0
AreBytes l = (i : ℕ) → get_or l i 0 < 256

-- and bytes are those of the number that they are read as
pub forth : (k : ℕ) (l : List ℕ) → AreBytes l → k ≤ length l → low_first k (num_of (take k l)) ≡ take k l
forth zero l h r = refl
forth (suc k) [] h r = absurd (omega arith)
forth (suc k) (b ∷ bs) h r =
    let low : (b + 256 * num_of (take k bs)) % 256 ≡ b = omega (arith, h 0) in
    let high : (b + 256 * num_of (take k bs)) / 256 ≡ num_of (take k bs) = omega (arith, h 0) in
    rw (low, high, forth k bs (λ i. h (suc i)) (omega arith))
