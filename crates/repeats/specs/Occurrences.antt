-- What an occurrence is, by day numbers: "The start is the first occurrence", and every one has its time of day.
use Rattle.std.specs.Prelude.{ℕ, ◌+◌, ◌-◌, ◌*◌, ◌/◌, ◌%◌, ◌^◌, Bool, cond, ◌&&◌, List, eqb, leb, ltb, take}
use Rattle.refusals.specs.declared.Reason.TheVariants.{NoStart}
use Rattle.refusals.specs.Answers.{Answer, given, refuse}
use Rattle.calendar.specs.Gregorian.{year_of, month_of_day, day_of, day_number, days}
use Rattle.calendar.specs.Moments.{day_of_moment}
use Rattle.calendar.specs.declared.moments.Moment.{Moment}
use Rattle.rules.specs.declared.Freq.{Freq}
use Rattle.rules.specs.declared.Freq.TheVariants.{Daily, Weekly, Monthly}
use Rattle.rules.specs.declared.Bound.{Bound}
use Rattle.rules.specs.declared.Bound.TheVariants.{Endless, Count, UntilDay, UntilMoment}
use Rattle.rules.specs.declared.Rule.{Rule}
use Rattle.repeats.specs.Held.{between, one}

-- FREQ with its weekdays, 0 for Monday, or its day of the month
pub data Repeat : Type 0 where
  daily : Repeat
  weekly : (ℕ → Bool) → Repeat
  monthly : ℕ → Repeat

-- i divides n
abbrev pub divides : ℕ → ℕ → Bool
divides i n = eqb (n % i) 0

-- the number of the month of day n, from 0001-01 on
unfoldable pub month_at : ℕ → ℕ
month_at n = 12 * (year_of n - 1) + (month_of_day n - 1)

-- does the rule with INTERVAL i from day s on hold at day n, s ≤ n? Weeks begin on Monday, and day 0 is one.
unfoldable pub holds : Repeat → ℕ → ℕ → ℕ → Bool
holds daily i s n = divides i (n - s)
holds (weekly w) i s n = w (n % 7) && divides i (n / 7 - s / 7)
holds (monthly d) i s n = eqb (day_of n) d && divides i (month_at n - month_at s)

-- the weekdays of BYDAY, a bit each, Monday the lowest; "Without BYDAY .. the start's own weekday .. counts"
abbrev pub weekdays_of : ℕ → ℕ → ℕ → Bool
weekdays_of bits s w = cond (eqb bits 0) (eqb w (s % 7)) (eqb (bits / 2 ^ w % 2) 1)

-- BYMONTHDAY; without it the start's own day
abbrev pub month_day_of : ℕ → Moment → ℕ
month_day_of d t = cond (eqb d 0) t.day d

-- what a rule repeats from a start on
abbrev pub repeat_by : Freq → Rule → Moment → Repeat
repeat_by Daily r t = daily
repeat_by Weekly r t = weekly (weekdays_of r.days (day_of_moment t))
repeat_by Monthly r t = monthly (month_day_of r.day t)

abbrev pub repeat_of : Rule → Moment → Repeat
repeat_of r t = repeat_by r.freq r t

-- the milliseconds of a moment's day that have passed
abbrev pub time_of_day : Moment → ℕ
time_of_day t = 1000 * (60 * (60 * t.hour + t.minute) + t.second) + t.millisecond

-- the first day too late: "UNTIL is a civil date, that day included, or a date-time"; "the list ends with year 9999"
abbrev pub limit_of : Bound → Moment → ℕ
limit_of Endless t = days
limit_of (Count n) t = days
limit_of (UntilDay y m d) t = day_number y m d + 1
limit_of (UntilMoment u) t = day_of_moment u + one (leb (time_of_day t) (time_of_day u))

-- COUNT
abbrev pub counted : Bound → List ℕ → List ℕ
counted Endless l = l
counted (Count n) l = take n l
counted (UntilDay y m d) l = l
counted (UntilMoment u) l = l

-- whether the rule holds at day n
abbrev pub occurs_on : Rule → Moment → ℕ → Bool
occurs_on r t n = holds (repeat_of r t) r.interval (day_of_moment t) n

-- the days of the occurrences: of those from the start's on below the limit at which the rule holds the first COUNT
unfoldable pub occurrences : Rule → Moment → List ℕ
occurrences r t = counted r.bound (between (occurs_on r t) (day_of_moment t) (limit_of r.bound t))

-- "The start is the first occurrence and must match the rule": it matches and does not lie past UNTIL
unfoldable pub start_fits : Rule → Moment → Bool
start_fits r t = occurs_on r t (day_of_moment t) && ltb (day_of_moment t) (limit_of r.bound t)

-- "19 for a start that doesn't match or lies past UNTIL"
unfoldable pub days_of : Rule → Moment → Answer (List ℕ)
days_of r t = cond (start_fits r t) (given (occurrences r t)) (refuse NoStart 0 0)
