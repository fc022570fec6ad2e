use mathlib.Core.Path.{◌≡◌}
use Prim.Native.Nat.{ℕ, ◌+◌, ◌*◌, ◌/◌, ◌%◌, ◌≤◌}
use native.Mathlib.Omega.{arith}
use Rattle.calendar.specs.Gregorian.{days_of_years, days}
use Rattle.calendar.proofs.Leap.{cycles_days}
use Rattle.calendar.proofs.gregorian.days_of_years.Goals as goal

-- the years of a calendar have no more days than it
within : (x : ℕ) → x ≤ 9999 → days_of_years x ≤ days
unfolding days_of_years
within x h = omega arith

-- the days of whole cycles, and of the years after them
split : (x : ℕ) → 146097 * (x / 400) + days_of_years (x % 400) ≡ days_of_years x
split x =
    let whole : x % 400 + 400 * (x / 400) ≡ x = omega arith in
    let d : days_of_years x ≡ days_of_years (x % 400) + 146097 * (x / 400) = rw whole at (cycles_days (x % 400) (x / 400)) in
    omega arith

pub overflow_add-result : goal.overflow_add-result
overflow_add-result c =
    let x = c.args.x in
    omega (arith, split x, within x c.requires)

pub returns : goal.returns
returns c =
    let x = c.args.x in
    (omega (arith, split x), omega (arith, split x, within x c.requires))
