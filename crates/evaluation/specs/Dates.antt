-- `Date::to_chrono`, at the time of day of t.
use Rattle.std.specs.Prelude.{ℕ, true, false, cond}
use Rattle.calendar.specs.Moments.{Outcome, moment, refused, in_range, is_date, with_date, minutes_step}
use Rattle.calendar.specs.declared.moments.Moment.{Moment}
use Rattle.dates.specs.declared.date.Date.{Date}
use Rattle.dates.specs.declared.date.Date.TheVariants.{YearMonthNumDay, MonthNumDayYear, DayMonthYear, MonthDayYear}
use Rattle.dates.specs.declared.date.Date.TheVariants.{MonthNumDay, MonthDay, Today, Tomorrow, Yesterday, Empty}
use Rattle.refusals.specs.declared.Reason.TheVariants as refusal

-- "In one stated date, year range (12) is tested before month and day (10)." "a stated year is taken as it stands"
abbrev pub stated_date : ℕ → ℕ → ℕ → Moment → Outcome
stated_date y m d t =
    cond (in_range y 1 9999) (cond (is_date y m d) (moment (with_date y m d t)) (refused refusal.NoDate)) (refused refusal.Outside)

-- `Date::to_chrono`: "Today is now's date, tomorrow and yesterday one day from it. A date without year takes now's year"
abbrev pub date_at : Date → Moment → Outcome
date_at Today t = moment t
date_at Yesterday t = minutes_step true 1440 t
date_at Tomorrow t = minutes_step false 1440 t
date_at (MonthNumDay m d) t = stated_date t.year m d t
date_at (MonthNumDayYear m d y) t = stated_date y m d t
date_at (YearMonthNumDay y m d) t = stated_date y m d t
date_at (MonthDay m d) t = stated_date t.year m d t
date_at (MonthDayYear m d y) t = stated_date y m d t
date_at (DayMonthYear d m y) t = stated_date y m d t
date_at Empty t = moment t
