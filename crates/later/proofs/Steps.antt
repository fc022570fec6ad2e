-- Each step, from moments in order: the moments that it gives are in order.
use Prim.Native.Nat.{ℕ, ◌+◌, ◌-◌, ◌%◌}
use native.Mathlib.Omega.{arith}
use mathlib.Core.Path.{◌≡◌}
use mathlib.Core.Bool.{Bool, true, false}
use lib.Dec.{leb}
use borrow.Author.Tests.{leb-true}
use Rattle.calendar.specs.Gregorian.{leap_year, month_length, IsDate}
use Rattle.calendar.specs.Moments.{IsMoment, day_of_moment, moved, has_room, minute_number, minutes, minutes_step}
use Rattle.calendar.specs.Moments.{month_number, months, months_step, year_number, years, years_step}
use Rattle.calendar.specs.declared.moments.Moment.{Moment}
use Rattle.calendar.proofs.Rooms.{below_limit, moved_apart}
use Rattle.calendar.proofs.Places.{in_year_date}
use Rattle.calendar.proofs.DateOrder.{own_years, months_keep_order, years_keep_order}
use Rattle.dates.specs.declared.date.Date.{Date}
use Rattle.dates.specs.declared.date.Date.TheVariants.{YearMonthNumDay, MonthNumDayYear, DayMonthYear, MonthDayYear}
use Rattle.dates.specs.declared.date.Date.TheVariants.{MonthNumDay, MonthDay, Today, Tomorrow, Yesterday, Empty}
use Rattle.evaluation.specs.Dates.{date_at}
use Rattle.steps.specs.Running.{start_at, move_by, act_of}
use Rattle.steps.specs.declared.plan.Start.{Start}
use Rattle.steps.specs.declared.plan.Start.TheVariants.{Now, Senseless, OnDate, InWeek, FromToday}
use Rattle.steps.specs.declared.plan.Move.{Move}
use Rattle.steps.specs.declared.plan.Move.TheVariants.{Minutes, Months, Years, BackTo, ForwardTo}
use Rattle.steps.specs.declared.plan.Step.{Step}
use Rattle.steps.specs.declared.plan.Step.TheVariants.{From, By, AtTime}
use Rattle.later.specs.Nows.{SameTime}
use Rattle.later.proofs.InOrder.{InOrder, on_dates, at_minutes}
use Rattle.later.proofs.Outcomes.{Kept, both, no_first, tested}
use Rattle.later.proofs.Weekdays.{in_week_kept, forward_to_kept, back_to_kept}
use Rattle.later.proofs.Stated.{date_kept, time_kept}

-- a moment's month and day in the year that so many years lead to
dated :
    (back : Bool) (k : ℕ) (t : Moment) → IsMoment t → has_room back k (year_number t) years ≡ true →
    leb t.day (month_length (leap_year (moved back k (year_number t) + 1)) t.month) ≡ true →
    IsDate (moved back k (year_number t) + 1) t.month t.day
dated back k t v e f = in_year_date t v (below_limit back k _ years (omega (arith, v.date)) e) (leb-true _ _ f)

module _ {t u : Moment} (v : IsMoment t) (w : IsMoment u) (a : InOrder t u) where
  -- fixed lengths: as many days stay between the two
  minutes_kept : (back : Bool) (k : ℕ) → Kept (minutes_step back k t) (minutes_step back k u)
  unfolding minutes_step
  minutes_kept back k =
      tested (has_room back k (minute_number t) minutes) (has_room back k (minute_number u) minutes) _ _ _
      (λ e f.
      let apart = moved_apart back k (minute_number t) (minute_number u) minutes e (omega (arith, a.time, a.day)) in
      both (at_minutes _ _ (day_of_moment u - day_of_moment t) a.time (omega (arith, a.time, a.day))))

  -- months, past their ends too
  months_kept : (back : Bool) (k : ℕ) → Kept (months_step back k t) (months_step back k u)
  unfolding months_step
  months_kept back k =
      tested (has_room back k (month_number t) months) (has_room back k (month_number u) months) _ _ _
      (λ e f. both (on_dates _ _ _ _ _ _ a.time (months_keep_order v w a.day back k e f)))

  -- years
  years_kept : (back : Bool) (k : ℕ) → Kept (years_step back k t) (years_step back k u)
  unfolding years_step
  years_kept back k =
      tested (has_room back k (year_number t) years) (has_room back k (year_number u) years) _ _ _
      (λ e f.
      tested (leb t.day (month_length (leap_year (moved back k (year_number t) + 1)) t.month))
      (leb u.day (month_length (leap_year (moved back k (year_number u) + 1)) u.month)) _ _ _
      (λ g h.
      both (on_dates _ _ _ _ _ _ a.time (years_keep_order v w a.day back k e (dated back k t v e g) (dated back k u w f h)))))

  -- a date, with a year of its own or with the moment's
  date_at_kept : (d : Date) → Kept (date_at d t) (date_at d u)
  date_at_kept Today = both a
  date_at_kept Yesterday = minutes_kept true 1440
  date_at_kept Tomorrow = minutes_kept false 1440
  date_at_kept (MonthNumDay m d) = date_kept a t.year u.year m d (own_years v w a.day)
  date_at_kept (MonthNumDayYear m d y) = date_kept a y y m d (omega arith)
  date_at_kept (YearMonthNumDay y m d) = date_kept a y y m d (omega arith)
  date_at_kept (MonthDay m d) = date_kept a t.year u.year m d (own_years v w a.day)
  date_at_kept (MonthDayYear m d y) = date_kept a y y m d (omega arith)
  date_at_kept (DayMonthYear d m y) = date_kept a y y m d (omega arith)
  date_at_kept Empty = both a

  start_kept : (s : Start) → Kept (start_at s t) (start_at s u)
  start_kept Now = both a
  start_kept Senseless = no_first
  start_kept (OnDate d) = date_at_kept d
  start_kept (InWeek s w) = in_week_kept a s (w % 7)
  start_kept (FromToday w) = forward_to_kept a (w % 7) (omega arith)

  move_kept : (m : Move) → Kept (move_by m t) (move_by m u)
  move_kept (Minutes back k) = minutes_kept back k
  move_kept (Months back k) = months_kept back k
  move_kept (Years back k) = years_kept back k
  move_kept (BackTo w) = back_to_kept a (w % 7) (omega arith)
  move_kept (ForwardTo w) = forward_to_kept a (w % 7) (omega arith)

  -- a step, at nows with the same time of day
  pub act_kept : {n k : Moment} → SameTime n k → (s : Step) → Kept (act_of s n t) (act_of s k u)
  act_kept same (From s) = start_kept s
  act_kept same (By m) = move_kept m
  act_kept same (AtTime x) = time_kept a same x
