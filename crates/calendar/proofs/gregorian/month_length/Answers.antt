use mathlib.Core.Logic.{⊎_elim}
use Rattle.calendar.specs.Gregorian.{month_length}
use Rattle.calendar.proofs.Months.{long}
use Rattle.calendar.proofs.gregorian.month_length.Goals as goal

pub returns-in-2 : goal.returns-in-2
unfolding month_length
returns-in-2 c = rw (c.in-2.is, c.leap_day.ensures.0)

pub returns-in-4 : goal.returns-in-4
unfolding month_length
returns-in-4 c = ⊎_elim (λ e. rw e) (⊎_elim (λ e. rw e) (⊎_elim (λ e. rw e) (λ e. rw e))) c.in-4.is

pub returns-in_default : goal.returns-in_default
returns-in_default c = long _ _ c.requires.0 c.requires.1 c.in_default.in_default-own.rest.0.1 c.in_default.in_default-own.rest.1
