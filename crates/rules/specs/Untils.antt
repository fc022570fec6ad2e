-- COUNT's and UNTIL's values as a rule's bound, none for any other text. Assumes nothing.
use Rattle.std.specs.Prelude.{ℕ, ◌+◌, ◌*◌, cond, List, Option, Some, None}
use Rattle.std.specs.Option.{option_map}
use Rattle.digits.specs.Bytes.{bytes_of}
use Rattle.digits.specs.Digits.{two_at}
use Rattle.digits.specs.Forms.{of_form}
use Rattle.calendar.specs.Moments.{is_date, is_moment, moment_of}
use Rattle.calendar.specs.declared.moments.Moment.{Moment}
use Rattle.rules.specs.Numbers.{number_to}
use Rattle.rules.specs.declared.Bound.{Bound}
use Rattle.rules.specs.declared.Bound.TheVariants.{Count, UntilDay, UntilMoment}

-- "COUNT from 1 to 4,294,967,295"
unfoldable pub count_in : List ℕ → Option Bound
count_in s = option_map Count (number_to 4294967295 s)

-- "date-fullyear = 4DIGIT" at the front of a text
abbrev pub year_at : List ℕ → ℕ
year_at s = 100 * two_at s 0 + two_at s 2

-- "date-value = date-fullyear date-month date-mday" (section 3.3.4), a date of the years 1 to 9999
abbrev pub day_in : List ℕ → Option Bound
day_in s = cond (is_date (year_at s) (two_at s 4) (two_at s 6)) (Some (UntilDay (year_at s) (two_at s 4) (two_at s 6))) None

-- "date-time = date "T" time" (section 3.3.5), "time = time-hour time-minute time-second" (section 3.3.12)
abbrev pub moment_at : List ℕ → Moment
moment_at s = moment_of (year_at s) (two_at s 4) (two_at s 6) (two_at s 9) (two_at s 11) (two_at s 13) 0

-- a date and a time that exist
abbrev pub moment_in : List ℕ → Option Bound
moment_in s = cond (is_moment (moment_at s)) (Some (UntilMoment (moment_at s))) None

-- "UNTIL is a civil date, that day included, or a date-time without "Z""
unfoldable pub until_in : List ℕ → Option Bound
until_in s = cond (of_form (bytes_of "00000000") s) (day_in s) (cond (of_form (bytes_of "00000000T000000") s) (moment_in s) None)
