-- The months of a rule's turns.
use mathlib.Core.Path.{◌≡◌}
use mathlib.Core.Bool.{Bool, true, false}
use lib.Dec.{leb}
use Prim.Native.Nat.{ℕ, zero, suc, ◌+◌, ◌*◌, ◌/◌, ◌%◌, ◌≤◌}
use native.Mathlib.Omega.{arith}
use Rattle.calendar.specs.Gregorian.{leap_year, month_length}
use Rattle.repeats.specs.Firsts.{has_day}

-- 400 years on, any number of times, a year is of the same kind
pub leap_again : (x k : ℕ) → leap_year (x + 400 * k) ≡ leap_year x
unfolding leap_year
leap_again x k =
    let a : (x + 400 * k) % 4 ≡ x % 4 = omega arith in
    let b : (x + 400 * k) % 100 ≡ x % 100 = omega arith in
    let c : (x + 400 * k) % 400 ≡ x % 400 = omega arith in
    rw (a, b, c)

-- a common year's month is at most as long
pub common : (l : Bool) (m : ℕ) → month_length false m ≤ month_length l m
unfolding month_length
common true zero = omega arith
common true (suc zero) = omega arith
common true (suc (suc zero)) = omega arith
common true (suc (suc (suc m))) = omega arith
common false m = omega arith

-- 12 k months on the same month comes, k years on
pub years_on : (d n k : ℕ) → has_day d (n + 12 * k) ≡ leb d (month_length (leap_year (n / 12 + 1 + k)) (n % 12 + 1))
unfolding has_day
years_on d n k =
    let a : (n + 12 * k) / 12 + 1 ≡ n / 12 + 1 + k = omega arith in
    let b : (n + 12 * k) % 12 ≡ n % 12 = omega arith in
    rw (a, b)
