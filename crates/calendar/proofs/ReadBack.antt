-- A moment that is written in the fixed form fits it and reads back. Assumes nothing.
use Prim.Native.Nat.{ℕ}
use native.Mathlib.Omega.{arith}
use mathlib.Core.Path.{◌≡◌}
use mathlib.Core.Bool.{true}
use mathlib.Core.List.{List, ◌++◌}
use Rattle.digits.specs.Forms.{of_form}
use Rattle.digits.proofs.Forms.{own_place_lem}
use Rattle.digits.proofs.Says.{digit_is, two_say, four_say}
use Rattle.calendar.specs.Gregorian.{leap_year}
use Rattle.calendar.specs.Moments.{IsMoment}
use Rattle.calendar.specs.Fixed.{moment_form, moment_text, moment_in}
use Rattle.calendar.specs.declared.moments.Moment.{Moment}
use Rattle.calendar.proofs.Months.{month}

-- what is written fits the form
pub moment_fits : (m : ℕ) (t : Moment) → of_form (moment_form m) (moment_text m t) ≡ true
moment_fits m t = simp (digit_is, own_place_lem m)

-- and reads back, whatever follows
pub moment_back : (m : ℕ) (t : Moment) (rest : List ℕ) → IsMoment t → moment_in t.millisecond (moment_text m t ++ rest) ≡ t
moment_back m t rest h =
    let date = h.date in
    let time = h.time in
    let days = (month (leap_year t.year) t.month date.month_low date.month_high).most in
    rw (
      four_say t.year (omega arith),
      two_say t.month (omega arith),
      two_say t.day (omega arith),
      two_say t.hour (omega arith),
      two_say t.minute (omega arith),
      two_say t.second (omega arith),
    )
