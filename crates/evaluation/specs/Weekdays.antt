-- Weekdays by the day number, Monday 0; day 0 is a Monday. "These refuse 12 exactly when the resulting date is outside."
use Rattle.std.specs.Prelude.{ℕ, ◌+◌, ◌-◌, ◌%◌, cond, leb}
use Rattle.calendar.specs.Gregorian.{weekday}
use Rattle.calendar.specs.Moments.{Outcome, refused, day_of_moment, on_day}
use Rattle.calendar.specs.declared.moments.Moment.{Moment}
use Rattle.dates.specs.declared.units.RelativeSpecifier.{RelativeSpecifier}
use Rattle.dates.specs.declared.units.RelativeSpecifier.TheVariants.{This, Next, Last}
use Rattle.refusals.specs.declared.Reason.TheVariants as refusal

-- the Monday of the ISO week of a day
abbrev pub monday_of : ℕ → ℕ
monday_of n = n - weekday n

-- the day that lies b days before day n
unfoldable pub days_back : ℕ → ℕ → Moment → Outcome
days_back n b t = cond (leb b n) (on_day (n - b) t) (refused refusal.Outside)

-- "that weekday in the following, preceding or same ISO week"
abbrev pub in_week : RelativeSpecifier → ℕ → Moment → Outcome
in_week This w t = on_day (monday_of (day_of_moment t) + w) t
in_week Next w t = on_day (monday_of (day_of_moment t) + 7 + w) t
in_week Last w t = days_back (monday_of (day_of_moment t) + w) 7 t

-- "on to the first such weekday, that day included"; "A bare weekday is its first date from today, today included": the same rule
abbrev pub forward_to : ℕ → Moment → Outcome
forward_to w t = on_day (day_of_moment t + (7 + w - weekday (day_of_moment t)) % 7) t

-- "then back to the weekday (0 to 6 days)"
abbrev pub back_to : ℕ → Moment → Outcome
back_to w t = days_back (day_of_moment t) ((7 + weekday (day_of_moment t) - w) % 7) t
