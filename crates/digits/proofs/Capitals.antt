-- Capitals of bytes that are no letters. Assumes nothing.
use Prim.Native.Nat.{ℕ, ◌+◌, ◌-◌, ◌%◌, ◌<◌}
use native.Mathlib.Omega.{arith}
use mathlib.Core.Path.{◌≡◌, refl}
use mathlib.Core.Bool.{Bool, true, false, ◌&&◌, cond}
use lib.Dec.{leb}
use borrow.Author.Tests.{leb-true, lt-leb}
use Rattle.digits.specs.Bytes.{capital_of}
use Rattle.digits.specs.Digits.{digit_of}

-- a byte before the small letters is its own capital
pub capital_before : (b : ℕ) → b < 97 → capital_of b ≡ b
capital_before b l = rw (lt-leb 97 b l)

-- so is a digit
pub capital_digit : (n : ℕ) → capital_of (digit_of n) ≡ digit_of n
capital_digit n = capital_before (48 + n % 10) (omega arith)

-- a byte whose capital stands before the letters is that byte
pub capital_other : (b k : ℕ) → k < 65 → capital_of b ≡ k → b ≡ k
capital_other b k l = go (leb 97 b) refl (leb b 122)
  where
    go : (c : Bool) → leb 97 b ≡ c → (d : Bool) → cond (c && d) (b - 32) b ≡ k → b ≡ k
    go true e true h = let far = leb-true 97 b e in absurd (omega arith)
    go true e false h = h
    go false e d h = h
