-- A step comes back from its numbers, and its kind and form fit into their bytes.
use Prim.Native.Nat.{ℕ, ◌+◌, ◌*◌, ◌/◌, ◌%◌, ◌<◌}
use native.Mathlib.Omega.{arith}
use mathlib.Core.Path.{◌≡◌, refl}
use mathlib.Core.Bool.{true, false}
use lib.Dec.{ltb}
use borrow.Author.Tests.{ltb-true}
use Rattle.dates.specs.declared.date.Date.{Date}
use Rattle.dates.specs.declared.date.Date.TheVariants.{YearMonthNumDay, MonthNumDayYear, DayMonthYear, MonthDayYear}
use Rattle.dates.specs.declared.date.Date.TheVariants.{MonthNumDay, MonthDay, Today, Tomorrow, Yesterday, Empty}
use Rattle.dates.specs.declared.time.Time.{Time}
use Rattle.dates.specs.declared.time.Time.TheVariants.{HourMin, HourMinAM, HourMinPM, Empty as NowsTime}
use Rattle.dates.specs.declared.units.RelativeSpecifier.{RelativeSpecifier}
use Rattle.dates.specs.declared.units.RelativeSpecifier.TheVariants.{This, Next, Last}
use Rattle.steps.specs.declared.plan.Start.{Start}
use Rattle.steps.specs.declared.plan.Start.TheVariants.{Now, Senseless, OnDate, InWeek, FromToday}
use Rattle.steps.specs.declared.plan.Move.{Move}
use Rattle.steps.specs.declared.plan.Move.TheVariants.{Minutes, Months, Years, BackTo, ForwardTo}
use Rattle.steps.specs.declared.plan.Step.{Step}
use Rattle.steps.specs.declared.plan.Step.TheVariants.{From, By, AtTime}
use Rattle.records.specs.Words.{date_words, week_words, start_words, move_words, time_words, wide, words_of, step_from}
use Rattle.records.specs.declared.words.Words.{Words}

-- they lead back to the step; the kind fits into one byte, and the form into three
abbrev Numbers : Words → Step → Type 0
Numbers w s = (step_from w ≡ s) × (ltb w.kind 256 ≡ true) × (ltb w.form 16777216 ≡ true)

of_date : (d : Date) → Numbers (date_words d) (From (OnDate d))
unfolding step_from
of_date (YearMonthNumDay y m d) = (refl, refl, refl)
of_date (MonthNumDayYear m d y) = (refl, refl, refl)
of_date (DayMonthYear d m y) = (refl, refl, refl)
of_date (MonthDayYear m d y) = (refl, refl, refl)
of_date (MonthNumDay m d) = (refl, refl, refl)
of_date (MonthDay m d) = (refl, refl, refl)
of_date Today = (refl, refl, refl)
of_date Tomorrow = (refl, refl, refl)
of_date Yesterday = (refl, refl, refl)
of_date Empty = (refl, refl, refl)

of_week : (s : RelativeSpecifier) (w : ℕ) → Numbers (week_words s w) (From (InWeek s w))
unfolding step_from
of_week This w = (refl, refl, refl)
of_week Next w = (refl, refl, refl)
of_week Last w = (refl, refl, refl)

of_time : (t : Time) → Numbers (time_words t) (AtTime t)
unfolding step_from
of_time NowsTime = (refl, refl, refl)
of_time (HourMin h m) = (refl, refl, refl)
of_time (HourMinAM h m) = (refl, refl, refl)
of_time (HourMinPM h m) = (refl, refl, refl)

-- the two numbers of minutes make one
joined : (k : ℕ) → k % wide + wide * (k / wide) ≡ k
joined k = omega arith

of_start : (s : Start) → Numbers (start_words s) (From s)
unfolding step_from
of_start Now = (refl, refl, refl)
of_start Senseless = (refl, refl, refl)
of_start (OnDate d) = of_date d
of_start (InWeek s w) = of_week s w
of_start (FromToday w) = (refl, refl, refl)

of_move : (m : Move) → Numbers (move_words m) (By m)
unfolding step_from
of_move (Minutes false k) = (rw (joined k), refl, refl)
of_move (Minutes true k) = (rw (joined k), refl, refl)
of_move (Months false k) = (refl, refl, refl)
of_move (Months true k) = (refl, refl, refl)
of_move (Years false k) = (refl, refl, refl)
of_move (Years true k) = (refl, refl, refl)
of_move (BackTo w) = (refl, refl, refl)
of_move (ForwardTo w) = (refl, refl, refl)

of_step : (s : Step) → Numbers (words_of s) s
of_step (From s) = of_start s
of_step (By m) = of_move m
of_step (AtTime t) = of_time t

-- every step comes back from its numbers
pub step_back : (s : Step) → step_from (words_of s) ≡ s
step_back s = (of_step s).0

-- whose kind has one byte, and whose form has three
pub small_kind : (s : Step) → (words_of s).kind < 256
small_kind s = ltb-true _ _ (of_step s).1

pub small_form : (s : Step) → (words_of s).form < 16777216
small_form s = ltb-true _ _ (of_step s).2
