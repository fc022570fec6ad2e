use native.Mathlib.Omega.{arith}
use mathlib.Core.Path.{◌≡◌}
use Prim.Native.Nat.{ℕ, ◌<◌}
use Rattle.calendar.specs.Gregorian.{leap_year, day_number, IsDate, days}
use Rattle.calendar.proofs.Months.{month}
use Rattle.calendar.proofs.Dates.{in_days}
use Rattle.calendar.proofs.gregorian.day_number.Goals as goal

-- the answer by its definition has what laws say of it
told : (y m d r : ℕ) → IsDate y m d → r ≡ day_number y m d → (r ≡ day_number y m d) × (r < days)
told y m d r v e = (e, rw e (in_days v))

pub overflow_add-result-2 : goal.overflow_add-result-2
overflow_add-result-2 c =
    let args = c.args in
    omega (arith, month (leap_year args.y) args.m (omega arith) (omega arith))

pub returns : goal.returns
unfolding day_number
returns c = told _ _ _ _ c.requires (cc)
