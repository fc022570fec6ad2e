-- Digits are the digits of the number that they say. Assumes nothing.
use Prim.Native.Nat.{ℕ, ◌+◌, ◌*◌, ◌-◌, ◌/◌, ◌≤◌, ◌<◌}
use native.Mathlib.Omega.{arith}
use mathlib.Core.Path.{◌≡◌}
use mathlib.Core.Bool.{true, and-eq-true_iff}
use lib.Dec.{leb}
use borrow.Author.Tests.{leb-true}
use Rattle.digits.specs.Digits.{is_digit, digit_of}

-- a byte from 0 to 9
pub record IsDigit (b : ℕ) : Type 0 where
  pub low : 48 ≤ b
  pub high : b ≤ 57

-- what passes as a digit is one
pub test_digit : (b : ℕ) → is_digit b ≡ true → IsDigit b
test_digit b h =
    let both = (and-eq-true_iff (leb 48 b) (leb b 57)).0 h in
    record { low = leb-true _ _ both.0; high = leb-true _ _ both.1 }

-- two bytes are the two digits of the number that they say
pub record TwoAgain (a b : ℕ) : Type 0 where
  pub tens : digit_of ((10 * (a - 48) + (b - 48)) / 10) ≡ a
  pub ones : digit_of (10 * (a - 48) + (b - 48)) ≡ b
  pub below : 10 * (a - 48) + (b - 48) < 100

pub two_again : {a b : ℕ} → IsDigit a → IsDigit b → TwoAgain a b
two_again p q = record { tens = omega arith; ones = omega arith; below = omega arith }

-- the four digits of two numbers of two digits, one behind the other
pub record FourAgain (x y : ℕ) : Type 0 where
  pub thousands : digit_of ((100 * x + y) / 10 / 10 / 10) ≡ digit_of (x / 10)
  pub hundreds : digit_of ((100 * x + y) / 10 / 10) ≡ digit_of x
  pub tens : digit_of ((100 * x + y) / 10) ≡ digit_of (y / 10)
  pub ones : digit_of (100 * x + y) ≡ digit_of y

pub four_again : (x y : ℕ) → x < 100 → y < 100 → FourAgain x y
four_again x y h l =
    let high : (100 * x + y) / 10 / 10 ≡ x = omega arith in
    record { thousands = rw high; hundreds = rw high; tens = omega arith; ones = omega arith }
