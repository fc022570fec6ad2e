-- Worked cases, computed: New York's clocks of 2026 with a last transition in 2027, both ends, and the order of the refusals.
use Rattle.std.specs.Prelude.{ℕ, ◌≡◌, refl, List, [], ◌∷◌, map}
use Rattle.calendar.specs.Gregorian.{leap_year, month_length, days_before_month, days_of_years, day_number}
use Rattle.calendar.specs.Gregorian.{years_before, year_of, day_of_year, month_of, month_of_day, day_of}
use Rattle.calendar.specs.Moments.{Reach, moment, refused, is_date, is_time, on_day, minutes_step, months_step, years_step}
use Rattle.refusals.specs.declared.Reason.TheVariants as refusal
use Rattle.dates.specs.Durations.{part, concat}
use Rattle.dates.specs.declared.date.Date.TheVariants.{MonthDayYear, Today, Tomorrow, Yesterday}
use Rattle.dates.specs.declared.duration.Part.TheVariants.{Article, Specific}
use Rattle.dates.specs.declared.time.Time.TheVariants.{HourMin, Empty as NoTime}
use Rattle.dates.specs.declared.units.Unit.TheVariants.{Day, Week, Hour, Minute, Month, Year}
use Rattle.dates.specs.declared.units.RelativeSpecifier.TheVariants.{This}
use Rattle.expressions.specs.Tree.{date, unit_relative, weekday_expression_before, weekday_expression_after, after}
use Rattle.phrase.specs.Tree.{DateTime, date_time, duration_after, duration_before, now}
use Rattle.evaluation.specs.Weekdays.{days_back}
use Rattle.evaluation.specs.Evaluate.{evaluate_in}
use Rattle.steps.specs.Running.{run_in}
use Rattle.ready.specs.Made.{expr_steps, tree_steps, steps_of}
use Rattle.tzif.specs.Zones.{year_one}
use Rattle.zones.specs.Cases.{new_york}
use Rattle.zones.specs.Instants.{instant_by}
use Rattle.zones.specs.declared.instants.Instant.{Instant}
use Rattle.zoned.specs.InZone.{evaluate_at, run_at}

-- a reading at an instant, and its answer
pub record Case : Type 0 where
  pub from : Instant
  pub tree : DateTime
  pub answer : Reach Instant

-- at the millisecond 250 of a second
abbrev case : ℕ → DateTime → Reach Instant → Case
case s x r = record { from = instant_by s 250; tree = x; answer = r }

-- "Now keeps them through every step; a stated time sets them to 0"
abbrev kept : ℕ → Reach Instant
kept s = moment (instant_by s 250)

abbrev stated : ℕ → Reach Instant
stated s = moment (instant_by s 0)

unfoldable pub cases : List Case
cases =
    case 9223372038627727208 now (kept 9223372038627727208)
    ∷ case 9223372038627727208 (date_time (date Today) (HourMin 2 0)) (refused refusal.NoInstant)
    ∷ case 9223372038627727208 (date_time (date Today) (HourMin 2 59)) (refused refusal.NoInstant)
    ∷ case 9223372038627727208 (date_time (date Today) (HourMin 1 59)) (stated 9223372038627728948)
    ∷ case 9223372038627727208 (date_time (date Today) (HourMin 3 0)) (stated 9223372038627729008)
    ∷ case 9223372038627727208 (duration_after (part (Article Hour)) now) (kept 9223372038627730808)
    ∷ case 9223372038627667808 (duration_after (part (Specific Day 1)) now) (kept 9223372038627754208)
    ∷ case 9223372038627667808 (date_time (date Tomorrow) NoTime) (kept 9223372038627750608)
    ∷ case 9223372038627644408 (date_time (date Tomorrow) NoTime) (refused refusal.NoInstant)
    ∷ case 9223372038627667808 (date_time (weekday_expression_after 6 (part (Specific Day 0))) NoTime) (kept 9223372038627750608)
    ∷ case 9223372038627644408 (date_time (weekday_expression_after 6 (part (Specific Day 0))) NoTime) (refused refusal.NoInstant)
    ∷ case 9223372038625311608 (duration_after (part (Article Month)) now) (refused refusal.NoInstant)
    ∷ case 9223372038625311608 (duration_after (concat (Article Month) (part (Article Month))) now) (refused refusal.NoInstant)
    ∷ case 9223372038625311608 (duration_after (part (Specific Month 2)) now) (kept 9223372038630405608)
    ∷ case 9223372038648290408 (date_time (date Today) (HourMin 1 30)) (stated 9223372038648286808)
    ∷ case 9223372038648290408 (date_time (date Today) NoTime) (kept 9223372038648286808)
    ∷ case 9223372038648290408 now (kept 9223372038648290408)
    ∷ case 9223372038648290408 (duration_after (part (Specific Month 0)) now) (kept 9223372038648286808)
    ∷ case 9223372038648290408 (duration_after (part (Specific Minute 0)) now) (kept 9223372038648290408)
    ∷ case 9223372038648310208 (duration_after (part (Article Hour)) (date_time (date Today) (HourMin 1 30))) (stated 9223372038648290408)
    ∷ case 9223372038628324808 (date_time (weekday_expression_before 6 (part (Specific Week 2))) NoTime) (kept 9223372038627118808)
    ∷ case 9223372038659196608 (date_time (date Today) (HourMin 17 59)) (stated 9223372038659236148)
    ∷ case 9223372038659196608 (date_time (date Today) (HourMin 18 0)) (refused refusal.NoInstant)
    ∷ case 9223372038659196608 (date_time (date Today) (HourMin 18 59)) (refused refusal.NoInstant)
    ∷ case 9223372038659196608 (date_time (date Today) (HourMin 19 0)) (refused refusal.PastLast)
    ∷ case 9223372038659196608 (duration_after (part (Specific Day 2)) now) (refused refusal.PastLast)
    ∷ case 9223372038627660608 (duration_after (part (Specific Day 4000000000)) now) (refused refusal.PastLast)
    ∷ case 9223372038627660608 (duration_before (part (Specific Day 4000000000)) now) (refused refusal.Outside)
    ∷ case 9223372038627660608 (duration_after (part (Specific Month 4000000000)) now) (refused refusal.Outside)
    ∷ case 9223372038627660608 (date_time (unit_relative This Month) NoTime) (refused refusal.NoSense)
    ∷ case 9223372038659196608 (duration_after (part (Article Year)) now) (refused refusal.PastLast)
    ∷ case 9223372038659196608 (date_time (date Today) (HourMin 25 0)) (refused refusal.NoTime)
    ∷ case 9223372038659196608 (date_time (date (MonthDayYear 2 30 2099)) NoTime) (refused refusal.NoDate)
    ∷ case 9223372038659196608 (date_time (date (MonthDayYear 1 1 9999)) (HourMin 12 0)) (refused refusal.PastLast)
    ∷ case 9223372038659196608 (date_time (date (MonthDayYear 1 1 10000)) (HourMin 12 0)) (refused refusal.Outside)
    ∷ case 9223372038659196608 (date_time (after (part (Article Year)) (MonthDayYear 2 29 2096)) (HourMin 12 0)) (refused refusal.NoLeapDay)
    ∷ case 9223371974719196770 (date_time (date Today) NoTime) (kept 9223371974719196770)
    ∷ case 9223371974719196770 (date_time (date Yesterday) NoTime) (refused refusal.Outside)
    ∷ case 9223371974719196770 (duration_before (part (Article Minute)) now) (refused refusal.Outside)
    ∷ case 9223372038627660608 (date_time (date (MonthDayYear 1 1 1)) (HourMin 12 0)) (stated 9223371974719239970)
    -- now before the last transition, at it, and in civil year 0
    ∷ case 9223372038659236207 now (kept 9223372038659236207)
    ∷ case 9223372038659236208 now (refused refusal.PastLast)
    ∷ case 9223371974719196769 now (refused refusal.InvalidMoment)
    -- milliseconds of now: 8 before 22
    ∷ record { from = instant_by 9223372038627727208 999; tree = now; answer = moment (instant_by 9223372038627727208 999) }
    ∷ record { from = instant_by 9223372038627727208 1000; tree = now; answer = refused refusal.InvalidMoment }
    ∷ record { from = instant_by 9223372038659236208 1000; tree = now; answer = refused refusal.InvalidMoment }
    ∷ []

-- each reading leads where it is listed to
pub cases_as_listed : map (λ c. evaluate_at new_york c.tree c.from) cases ≡ map (λ c. c.answer) cases
unfolding cases evaluate_at evaluate_in year_one leap_year month_length days_before_month days_of_years day_number years_before year_of day_of_year month_of
    month_of_day day_of is_date is_time on_day minutes_step months_step years_step days_back
cases_as_listed = refl

-- and so do its steps
pub steps_as_listed : map (λ c. run_at new_york (steps_of c.tree) c.from) cases ≡ map (λ c. c.answer) cases
unfolding cases run_at run_in expr_steps tree_steps year_one leap_year month_length days_before_month days_of_years day_number years_before year_of day_of_year
    month_of month_of_day day_of is_date is_time on_day minutes_step months_step years_step days_back
steps_as_listed = refl
