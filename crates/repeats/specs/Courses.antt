-- A rule from a start on, its missing parts filled in once: the numbers that listing and asking begin from.
use Rattle.std.specs.Prelude.{ℕ, ◌≤◌, ◌<◌, ◌≡◌, Bool, true, cond, List, take, Result, Ok, Err}
use Rattle.refusals.specs.declared.Reason.{Reason}
use Rattle.refusals.specs.declared.Reason.TheVariants.{NoStart}
use Rattle.calendar.specs.Gregorian.{days}
use Rattle.calendar.specs.Moments.{day_of_moment, month_number}
use Rattle.calendar.specs.declared.moments.Moment.{Moment}
use Rattle.rules.specs.declared.Freq.{Freq}
use Rattle.rules.specs.declared.Freq.TheVariants.{Daily, Weekly, Monthly}
use Rattle.rules.specs.declared.Bound.{Bound}
use Rattle.rules.specs.declared.Bound.TheVariants.{Endless, Count, UntilDay, UntilMoment}
use Rattle.rules.specs.declared.Rule.{Rule}
use Rattle.repeats.specs.Held.{between}
use Rattle.repeats.specs.Occurrences.{Repeat, daily, weekly, monthly, holds, weekdays_of, month_day_of, limit_of, month_at, start_fits}
use Rattle.repeats.specs.declared.courses.Course.{Course}

-- COUNT; without it as many as the calendar has days, which no list passes
abbrev pub count_of : Bound → ℕ
count_of Endless = days
count_of (Count n) = n
count_of (UntilDay y m d) = days
count_of (UntilMoment u) = days

-- the numbers of a rule from a start on
abbrev pub course_of : Rule → Moment → Course
course_of r t =
    record {
      freq = r.freq;
      interval = r.interval;
      start = day_of_moment t;
      month = month_number t;
      days = r.days;
      day = month_day_of r.day t;
      limit = limit_of r.bound t;
      count = count_of r.bound;
    }

-- what a course repeats; by the law `same_repeat` what its rule does
abbrev pub repeat_on : Freq → Course → Repeat
repeat_on Daily c = daily
repeat_on Weekly c = weekly (weekdays_of c.days c.start)
repeat_on Monthly c = monthly c.day

abbrev pub repeat_in : Course → Repeat
repeat_in c = repeat_on c.freq c

-- whether it holds at day n
abbrev pub holds_in : Course → ℕ → Bool
holds_in c n = holds (repeat_in c) c.interval c.start n

-- its days; by the law `same_list` the rule's occurrences
abbrev pub days_in : Course → List ℕ
days_in c = take c.count (between (holds_in c) c.start c.limit)

-- a course whose start is its first day
pub record IsCourse (c : Course) : Type 0 where
  pub least : 1 ≤ c.interval
  pub most : c.interval ≤ 999
  pub month : c.month ≡ month_at c.start
  pub matches : holds_in c c.start ≡ true
  pub begins : c.start < c.limit
  pub ends : c.limit ≤ days

-- "19 for a start that doesn't match or lies past UNTIL"
abbrev pub begun_of : Rule → Moment → Result Course Reason
begun_of r t = cond (start_fits r t) (Ok (course_of r t)) (Err NoStart)
