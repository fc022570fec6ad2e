-- A reading at a now: `to_chrono` of `DateExpr` and `DateTime`.
use Rattle.std.specs.Prelude.{ℕ, ◌%◌, ◌≡◌, refl, Bool, true, false, cond, ◌&&◌, List, [], ◌∷◌, map}
use Rattle.calendar.specs.Gregorian.{leap_year, month_length, days_before_month, days_of_years, day_number}
use Rattle.calendar.specs.Gregorian.{years_before, year_of, day_of_year, month_of, month_of_day, day_of}
use Rattle.calendar.specs.Moments.{Reach, moment, refused, and_then, Outcome, is_date, is_time, moment_of, last_moment, with_date}
use Rattle.calendar.specs.Moments.{on_day, minutes_step, months_step, years_step}
use Rattle.calendar.specs.declared.moments.Moment.{Moment}
use Rattle.dates.specs.Durations.{part, is_sub_daily_unit}
use Rattle.dates.specs.declared.date.Date.{Date}
use Rattle.dates.specs.declared.date.Date.TheVariants.{YearMonthNumDay, MonthNumDayYear, DayMonthYear, MonthDayYear}
use Rattle.dates.specs.declared.date.Date.TheVariants.{MonthNumDay, MonthDay, Today, Tomorrow, Yesterday, Empty}
use Rattle.dates.specs.declared.duration.Part.TheVariants.{Article, Specific}
use Rattle.dates.specs.declared.time.Time.TheVariants.{HourMin, Empty as NoTime}
use Rattle.dates.specs.declared.units.Unit.{Unit}
use Rattle.dates.specs.declared.units.Unit.TheVariants.{Day, Week, Hour, Minute, Month, Year}
use Rattle.dates.specs.declared.units.RelativeSpecifier.{RelativeSpecifier}
use Rattle.dates.specs.declared.units.RelativeSpecifier.TheVariants.{This, Next, Last}
use Rattle.expressions.specs.Tree.{DateExpr, date, date_relative, date_expression_after, date_expression_before, unit_relative}
use Rattle.expressions.specs.Tree.{relative_weekday, weekday_relative, weekday_expression_before, weekday_expression_after, before, after, weekday, empty}
use Rattle.phrase.specs.Tree.{DateTime, date_time, time_date, duration_after, duration_before, now}
use Rattle.refusals.specs.declared.Reason.TheVariants as refusal
use Rattle.evaluation.specs.Worlds.{World, offset}
use Rattle.evaluation.specs.Steps.{unit_step, duration_step, duration_in}
use Rattle.evaluation.specs.Weekdays.{days_back, in_week, forward_to, back_to}
use Rattle.evaluation.specs.Dates.{date_at}
use Rattle.evaluation.specs.Times.{time_at}
use Rattle.evaluation.specs.Cases.{Case, row, A, B}

-- a date moved by a year, by its specifier
abbrev pub by_year : RelativeSpecifier → Moment → Outcome
by_year This t = moment t
by_year Next t = years_step false 1 t
by_year Last t = years_step true 1 t

-- `matches!(unit, Unit::Year)`
abbrev pub is_year : Unit → Bool
is_year Day = false
is_year Week = false
is_year Hour = false
is_year Minute = false
is_year Month = false
is_year Year = true

-- `matches!(unit, Unit::Week)`
abbrev pub is_week : Unit → Bool
is_week Day = false
is_week Week = true
is_week Hour = false
is_week Minute = false
is_week Month = false
is_week Year = false

-- a date with no year of its own
abbrev pub is_month_and_day : Date → Bool
is_month_and_day (YearMonthNumDay y m d) = false
is_month_and_day (MonthNumDayYear m d y) = false
is_month_and_day (DayMonthYear d m y) = false
is_month_and_day (MonthDayYear m d y) = false
is_month_and_day (MonthNumDay m d) = true
is_month_and_day (MonthDay m d) = true
is_month_and_day Today = false
is_month_and_day Tomorrow = false
is_month_and_day Yesterday = false
is_month_and_day Empty = false

-- 9: "a `DateRelative` whose unit isn't year or whose date isn't `MonthNumDay` or `MonthDay`"
abbrev pub date_relative_at : Date → RelativeSpecifier → Unit → Moment → Outcome
date_relative_at d s u t = cond (is_year u && is_month_and_day d) (and_then (date_at d t) (by_year s)) (refused refusal.NoSense)

-- one unit on or back
abbrev pub by_unit : RelativeSpecifier → Unit → Moment → Outcome
by_unit Next u t = unit_step false 1 u t
by_unit Last u t = unit_step true 1 u t
by_unit This u t = refused refusal.NoSense

-- 9: "a `UnitRelative` of "this", or of hour or minute"
abbrev pub unit_relative_at : RelativeSpecifier → Unit → Moment → Outcome
unit_relative_at s u t = cond (is_sub_daily_unit u) (refused refusal.NoSense) (by_unit s u t)

-- 9: "a `WeekdayRelative` whose unit isn't week"
abbrev pub weekday_relative_at : ℕ → RelativeSpecifier → Unit → Moment → Outcome
weekday_relative_at w s u t = cond (is_week u) (in_week s (w % 7) t) (refused refusal.NoSense)

-- `DateExpr::to_chrono`; a reading's weekdays are 0 to 6, and % 7 makes one of any other number
abbrev pub date_expr_at : DateExpr → Moment → Outcome
date_expr_at (date d) t = date_at d t
date_expr_at (date_relative d s u) t = date_relative_at d s u t
date_expr_at (weekday_expression_before w dur) t = and_then (duration_step true dur t) (back_to (w % 7))
date_expr_at (weekday_expression_after w dur) t = and_then (duration_step false dur t) (forward_to (w % 7))
date_expr_at (date_expression_after d dur) t = and_then (date_at d t) (duration_step false dur)
date_expr_at (date_expression_before d dur) t = and_then (date_at d t) (duration_step true dur)
date_expr_at (before dur d) t = and_then (date_at d t) (duration_step true dur)
date_expr_at (after dur d) t = and_then (date_at d t) (duration_step false dur)
date_expr_at (unit_relative s u) t = unit_relative_at s u t
date_expr_at (relative_weekday s w) t = in_week s (w % 7) t
date_expr_at (weekday_relative w s u) t = weekday_relative_at w s u t
date_expr_at (weekday w) t = forward_to (w % 7) t
date_expr_at empty t = moment t

-- `DateTime::to_chrono` in a world, at its now n: "date, time of day, then outer durations, innermost first"; "Steps ahead of a time-of-day
-- step act on civil date and time alone"
module _ {S : Type 0} (w : World S) where
  unfoldable pub evaluate_in : DateTime → S → Reach S
  evaluate_in now n = moment n
  evaluate_in (date_time e t) n = w.settle (and_then (date_expr_at e (w.civil n)) (time_at t (w.civil n)))
  evaluate_in (time_date t e) n = w.settle (and_then (date_expr_at e (w.civil n)) (time_at t (w.civil n)))
  evaluate_in (duration_after dur x) n = and_then (evaluate_in x n) (duration_in w false dur)
  evaluate_in (duration_before dur x) n = and_then (evaluate_in x n) (duration_in w true dur)

-- at a fixed offset
abbrev pub evaluate : DateTime → Moment → Outcome
evaluate = evaluate_in offset

-- a date expression at A, with no time of day
abbrev dated : DateExpr → Outcome → Case
dated e o = row (evaluate (date_time e NoTime)) A o

-- worked trees: each rule of the order and of 9 where another rule gives another answer
unfoldable pub trees : List Case
trees =
    -- date, then time of day: 10 where neither is one
    row (evaluate (time_date (HourMin 25 0) (date (MonthDay 1 32)))) A (refused refusal.NoDate)
    ∷ row (evaluate (date_time (date (MonthDay 1 32)) (HourMin 25 0))) A (refused refusal.NoDate)
    ∷ row (evaluate (time_date (HourMin 25 0) (date (MonthDay 1 31)))) A (refused refusal.NoTime)
    -- then outer durations: 11 where the way would leave the calendar too, and an hour from a stated time
    ∷ row (evaluate (duration_after (part (Specific Day 4294967295)) (date_time (date Today) (HourMin 25 0)))) A (refused refusal.NoTime)
    ∷ row (evaluate (duration_after (part (Article Hour)) (time_date (HourMin 23 30) empty))) B (moment (moment_of 2024 3 1 0 30 0 0))
    -- innermost first: the day and then the month
    ∷ row (evaluate (duration_before (part (Article Month)) (duration_after (part (Article Day)) now))) B (moment (with_date 2024 2 1 B))
    ∷ row (evaluate (duration_after (part (Article Month)) (duration_after (part (Article Day)) now))) B (moment (with_date 2024 4 1 B))
    -- 9 on each side
    ∷ dated (date_relative (MonthDay 3 4) Next Year) (moment (with_date 2027 3 4 A))
    ∷ dated (date_relative (MonthDay 3 4) Next Month) (refused refusal.NoSense)
    ∷ dated (date_relative Today Next Year) (refused refusal.NoSense)
    ∷ dated (unit_relative Next Month) (moment (with_date 2026 3 11 A))
    ∷ dated (unit_relative This Month) (refused refusal.NoSense)
    ∷ dated (unit_relative Next Hour) (refused refusal.NoSense)
    ∷ dated (weekday_relative 4 Next Week) (moment (with_date 2026 2 20 A))
    ∷ dated (weekday_relative 4 Next Month) (refused refusal.NoSense)
    -- a weekday and a duration: back to it, or on to it, the day that is reached included
    ∷ dated (weekday_expression_before 1 (part (Specific Week 2))) (moment (with_date 2026 1 27 A))
    ∷ dated (weekday_expression_after 1 (part (Specific Week 2))) (moment (with_date 2026 3 3 A))
    ∷ dated (weekday_expression_after 2 (part (Specific Week 2))) (moment (with_date 2026 2 25 A))
    ∷ dated (weekday_expression_after 2 (part (Specific Day 0))) (moment A)
    ∷ row (evaluate (date_time (weekday_expression_after 4 (part (Article Year))) NoTime)) B (refused refusal.NoLeapDay)
    ∷ row (evaluate (date_time (weekday_expression_after 4 (part (Specific Day 0))) NoTime)) last_moment (moment last_moment)
    ∷ row (evaluate (date_time (weekday_expression_after 5 (part (Specific Day 0))) NoTime)) last_moment (refused refusal.Outside)
    ∷ []

-- each tree evaluates as listed
pub trees_as_listed : map (λ c. c.rule c.from) trees ≡ map (λ c. c.answer) trees
unfolding trees evaluate_in leap_year month_length days_before_month days_of_years day_number years_before year_of day_of_year month_of month_of_day day_of
    is_date is_time on_day minutes_step months_step years_step days_back
trees_as_listed = refl
