-- Worked cases, computed: the paper's moments A and B and both ends of the calendar, on each side of each rule.
use Rattle.std.specs.Prelude.{◌≡◌, refl, true, false, List, [], ◌∷◌, map, ℕ}
use Rattle.calendar.specs.Gregorian.{leap_year, month_length, days_before_month, days_of_years, day_number}
use Rattle.calendar.specs.Gregorian.{years_before, year_of, day_of_year, month_of, month_of_day, day_of}
use Rattle.calendar.specs.Moments.{Outcome, moment, refused, and_then, is_date, is_time, moment_of, first_moment, last_moment, with_date, with_time}
use Rattle.calendar.specs.Moments.{on_day, minutes_step, months_step, years_step}
use Rattle.calendar.specs.declared.moments.Moment.{Moment}
use Rattle.dates.specs.Durations.{part, concat}
use Rattle.dates.specs.declared.duration.Part.TheVariants.{Article, Specific}
use Rattle.dates.specs.declared.units.Unit.TheVariants.{Hour, Day, Week, Month, Year}
use Rattle.dates.specs.declared.units.RelativeSpecifier.TheVariants.{This, Next, Last}
use Rattle.dates.specs.declared.date.Date.TheVariants.{YearMonthNumDay, MonthNumDay, Today, Tomorrow, Yesterday}
use Rattle.dates.specs.declared.time.Time.{Time}
use Rattle.dates.specs.declared.time.Time.TheVariants.{HourMin, HourMinAM, HourMinPM, Empty}
use Rattle.refusals.specs.declared.Reason.TheVariants as refusal
use Rattle.evaluation.specs.Steps.{unit_step, duration_step}
use Rattle.evaluation.specs.Weekdays.{days_back, in_week, forward_to, back_to}
use Rattle.evaluation.specs.Dates.{date_at}
use Rattle.evaluation.specs.Times.{time_at}

-- a row: a rule, the moment that it starts from, and its answer
pub record Case : Type 0 where
  pub rule : Moment → Outcome
  pub from : Moment
  pub answer : Outcome

-- a row of the table
abbrev pub row : (Moment → Outcome) → Moment → Outcome → Case
row f t o = record { rule = f; from = t; answer = o }

-- "A is 2026-02-11 09:30:15 (Wednesday)"
abbrev pub A : Moment
A = moment_of 2026 2 11 9 30 15 0

-- "B is 2024-02-29 12:00:00."
abbrev pub B : Moment
B = moment_of 2024 2 29 12 0 0 0

-- an answer at the time of day of A
abbrev day : ℕ → ℕ → ℕ → Outcome
day y m d = moment (with_date y m d A)

-- an answer on the date of A
abbrev clock : ℕ → ℕ → Outcome
clock h m = moment (with_time h m 0 0 A)

-- a time of day at A
abbrev time : Time → Outcome → Case
time x o = row (λ t. time_at x t t) A o

-- the table; weekdays are counted from Monday, 0
unfoldable pub cases : List Case
cases =
    -- a bare weekday: today, and 2 and 6 days on
    row (forward_to 2) A (day 2026 2 11)
    ∷ row (forward_to 4) A (day 2026 2 13)
    ∷ row (forward_to 1) A (day 2026 2 17)
    ∷ row (forward_to 4) last_moment (moment last_moment)
    ∷ row (forward_to 5) last_moment (refused refusal.Outside)
    -- in the following, preceding or same week
    ∷ row (in_week Next 4) A (day 2026 2 20)
    ∷ row (in_week Next 0) A (day 2026 2 16)
    ∷ row (in_week Last 4) A (day 2026 2 6)
    ∷ row (in_week Last 6) A (day 2026 2 8)
    ∷ row (in_week This 0) A (day 2026 2 9)
    ∷ row (in_week This 6) A (day 2026 2 15)
    ∷ row (in_week This 0) first_moment (moment first_moment)
    ∷ row (in_week Last 6) first_moment (refused refusal.Outside)
    ∷ row (in_week This 4) last_moment (moment last_moment)
    ∷ row (in_week This 5) last_moment (refused refusal.Outside)
    ∷ row (in_week Next 0) last_moment (refused refusal.Outside)
    -- back to a weekday: 0 and 6 days, and "tuesday in two weeks"
    ∷ row (back_to 2) A (day 2026 2 11)
    ∷ row (back_to 3) A (day 2026 2 5)
    ∷ row (λ t. and_then (unit_step true 2 Week t) (back_to 1)) A (day 2026 1 27)
    ∷ row (back_to 0) first_moment (moment first_moment)
    ∷ row (back_to 6) first_moment (refused refusal.Outside)
    -- a stated date: years 1 to 9999 before month and day
    ∷ row (date_at (YearMonthNumDay 0 13 1)) A (refused refusal.Outside)
    ∷ row (date_at (YearMonthNumDay 1 13 1)) A (refused refusal.NoDate)
    ∷ row (date_at (YearMonthNumDay 1 1 1)) A (day 1 1 1)
    ∷ row (date_at (YearMonthNumDay 9999 12 31)) A (day 9999 12 31)
    ∷ row (date_at (YearMonthNumDay 9999 12 32)) A (refused refusal.NoDate)
    ∷ row (date_at (YearMonthNumDay 10000 12 32)) A (refused refusal.Outside)
    ∷ row (date_at (MonthNumDay 2 29)) A (refused refusal.NoDate)
    ∷ row (date_at (MonthNumDay 2 29)) B (moment B)
    -- named days
    ∷ row (date_at Today) A (day 2026 2 11)
    ∷ row (date_at Tomorrow) last_moment (refused refusal.Outside)
    ∷ row (date_at Yesterday) first_moment (refused refusal.Outside)
    -- times of day
    ∷ time Empty (moment A)
    ∷ time (HourMin 23 59) (clock 23 59)
    ∷ time (HourMin 23 60) (refused refusal.NoTime)
    ∷ time (HourMin 24 0) (refused refusal.NoTime)
    ∷ time (HourMinAM 0 30) (refused refusal.NoTime)
    ∷ time (HourMinAM 12 30) (clock 0 30)
    ∷ time (HourMinAM 11 30) (clock 11 30)
    ∷ time (HourMinPM 12 30) (clock 12 30)
    ∷ time (HourMinPM 11 30) (clock 23 30)
    ∷ time (HourMinPM 13 30) (refused refusal.NoTime)
    -- milliseconds: "Now keeps them through every step; a stated time sets them to 0"
    ∷ row (unit_step true 1 Hour) last_moment (moment (with_time 22 59 59 999 last_moment))
    ∷ row (unit_step true 1 Month) last_moment (moment (with_date 9999 11 30 last_moment))
    ∷ row (unit_step true 1 Year) last_moment (moment (with_date 9998 12 31 last_moment))
    ∷ row (λ t. time_at Empty t t) last_moment (moment last_moment)
    ∷ row (λ t. time_at (HourMin 12 0) t t) last_moment (moment (with_time 12 0 0 0 last_moment))
    -- durations: a year is not twelve months, and parts act first to last
    ∷ row (duration_step false (part (Article Year))) B (refused refusal.NoLeapDay)
    ∷ row (duration_step false (part (Specific Month 12))) B (moment (with_date 2025 2 28 B))
    ∷ row (duration_step false (part (Specific Year 4294967295))) A (refused refusal.Outside)
    ∷ row (duration_step false (concat (Article Month) (part (Article Day)))) B (moment (with_date 2024 3 30 B))
    ∷ row (duration_step false (concat (Article Day) (part (Article Month)))) B (moment (with_date 2024 4 1 B))
    ∷ row (duration_step true (concat (Specific Year 2024) (part (Article Day)))) B (refused refusal.Outside)
    ∷ []

-- each rule answers as listed
pub answers_as_listed : map (λ c. c.rule c.from) cases ≡ map (λ c. c.answer) cases
unfolding cases leap_year month_length days_before_month days_of_years day_number years_before year_of day_of_year month_of month_of_day day_of
    is_date is_time on_day minutes_step months_step years_step days_back
answers_as_listed = refl
