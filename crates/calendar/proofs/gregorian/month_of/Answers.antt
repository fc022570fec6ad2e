use native.Mathlib.Omega.{arith}
use Rattle.calendar.specs.Gregorian.{month_of, leap_day, InMonth}
use Rattle.calendar.proofs.Months.{month_of_lem}
use mathlib.Core.Path.{◌≡◌}
use mathlib.Core.Bool.{Bool}
use Prim.Native.Nat.{ℕ, ◌+◌, ◌<◌}
use Rattle.calendar.proofs.gregorian.month_of.Goals as goal
use Rattle.calendar.proofs.gregorian.month_of.Goals.{then-k-l, else-k-l}

-- the answer by its definition has what laws say of it
told : (l : Bool) (k r : ℕ) → k < 365 + leap_day l → r ≡ month_of l k → (r ≡ month_of l k) × InMonth l k r
told l k r h e = (e, rw e (month_of_lem l k h))

pub returns : goal.returns
unfolding month_of
returns c =
    elim c.if-k-l.branch [
      | then-k-l w ↦ told _ _ _ c.requires (grind arith)
      | else-k-l w ↦ told _ _ _ c.requires (grind arith)
    ]
