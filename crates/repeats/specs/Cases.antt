-- Worked rules: the days that are listed, and the numbers of a row.
use Rattle.std.specs.Prelude.{ℕ, suc, ◌≡◌, refl, List, [], ◌∷◌, map}
use Rattle.refusals.specs.declared.Reason.TheVariants.{NoStart}
use Rattle.refusals.specs.Answers.{Answer, given, refuse}
use Rattle.calendar.specs.Gregorian.{leap_year, month_length, days_before_month, days_of_years, day_number, years_before, month_of, year_of, day_of_year, month_of_day, day_of}
use Rattle.calendar.specs.Moments.{moment_of}
use Rattle.calendar.specs.declared.moments.Moment.{Moment}
use Rattle.rules.specs.declared.Freq.{Freq}
use Rattle.rules.specs.declared.Freq.TheVariants.{Daily, Weekly, Monthly}
use Rattle.rules.specs.declared.Bound.{Bound}
use Rattle.rules.specs.declared.Bound.TheVariants.{Endless, Count, UntilDay, UntilMoment}
use Rattle.rules.specs.declared.Rule.{Rule}
use Rattle.repeats.specs.Held.{held, between, seek}
use Rattle.repeats.specs.Occurrences.{month_at, monthly, holds, counted, occurs_on, occurrences, start_fits, days_of}
use Rattle.repeats.specs.Firsts.{up, has_day, day_in, month_from, first_monthly, first_from}
use Rattle.repeats.specs.Listing.{rows, list_of}

-- a rule by FREQ, INTERVAL, COUNT or UNTIL, BYDAY's bits and BYMONTHDAY
abbrev rule : Freq → ℕ → Bound → ℕ → ℕ → Rule
rule f i b w d = record { freq = f; interval = i; bound = b; days = w; day = d }

-- a date-time of UNTIL
abbrev until : ℕ → ℕ → ℕ → ℕ → ℕ → ℕ → Bound
until y m d h mi s = UntilMoment (moment_of y m d h mi s 0)

-- Tuesday 2026-02-10 09:30:15.250
abbrev tuesday : Moment
tuesday = moment_of 2026 2 10 9 30 15 250

-- a rule, its start, how many numbers there is room for, and what is listed
pub record Listing : Type 0 where
  pub rule : Rule
  pub start : Moment
  pub room : ℕ
  pub listed : Answer (List ℕ)

abbrev lists : Rule → Moment → ℕ → Answer (List ℕ) → Listing
lists r t n a = record { rule = r; start = t; room = n; listed = a }

unfoldable pub listings : List Listing
listings =
    -- every second week on Sunday and Tuesday: weeks begin on Monday, so the Sunday is that of the start's week
    lists (rule Weekly 2 (UntilDay 2026 3 1) 66 0) tuesday 700
    (given (day_number 2026 2 10 ∷ day_number 2026 2 15 ∷ day_number 2026 2 24 ∷ day_number 2026 3 1 ∷ []))
    -- and Monday that of the second next
    ∷ lists (rule Weekly 2 (UntilDay 2026 2 28) 3 0) tuesday 700 (given (day_number 2026 2 10 ∷ day_number 2026 2 23 ∷ day_number 2026 2 24 ∷ []))
    -- 27 numbers are three rows, and six are none
    ∷ lists (rule Weekly 2 (UntilDay 2026 3 1) 66 0) tuesday 27 (given (day_number 2026 2 10 ∷ day_number 2026 2 15 ∷ day_number 2026 2 24 ∷ []))
    ∷ lists (rule Weekly 2 (UntilDay 2026 3 1) 66 0) tuesday 6 (given [])
    -- without BYDAY the start's own weekday
    ∷ lists (rule Weekly 1 (UntilDay 2026 2 28) 0 0) tuesday 700 (given (day_number 2026 2 10 ∷ day_number 2026 2 17 ∷ day_number 2026 2 24 ∷ []))
    -- UNTIL a date has that day; a date-time has it if the start's time of day is not after it
    ∷ lists (rule Daily 1 (UntilDay 2026 2 12) 0 0) tuesday 700 (given (day_number 2026 2 10 ∷ day_number 2026 2 11 ∷ day_number 2026 2 12 ∷ []))
    ∷ lists (rule Daily 1 (until 2026 2 12 9 30 15) 0 0) tuesday 700 (given (day_number 2026 2 10 ∷ day_number 2026 2 11 ∷ []))
    ∷ lists (rule Daily 1 (until 2026 2 12 9 30 16) 0 0) tuesday 700 (given (day_number 2026 2 10 ∷ day_number 2026 2 11 ∷ day_number 2026 2 12 ∷ []))
    -- a start that doesn't match, and starts past UNTIL
    ∷ lists (rule Weekly 1 Endless 1 0) tuesday 700 (refuse NoStart 0 0)
    ∷ lists (rule Monthly 1 Endless 0 31) tuesday 700 (refuse NoStart 0 0)
    ∷ lists (rule Daily 1 (UntilDay 2026 2 9) 0 0) tuesday 700 (refuse NoStart 0 0)
    ∷ lists (rule Daily 1 (until 2026 2 10 9 30 15) 0 0) tuesday 700 (refuse NoStart 0 0)
    -- "A month without the day is passed over"
    ∷ lists (rule Monthly 1 (UntilDay 2026 8 31) 0 0) (moment_of 2026 1 31 0 0 0 0) 700
    (given (day_number 2026 1 31 ∷ day_number 2026 3 31 ∷ day_number 2026 5 31 ∷ day_number 2026 7 31 ∷ day_number 2026 8 31 ∷ []))
    ∷ []

pub as_listed : map (λ (x : Listing). list_of x.rule x.start x.room) listings ≡ map (λ (x : Listing). x.listed) listings
unfolding
    listings days_of start_fits occurrences holds held month_at leap_year month_length days_before_month days_of_years day_number years_before month_of year_of day_of_year
    month_of_day day_of
as_listed = refl

-- COUNT doesn't count the months that are passed over
pub counted_four :
    counted (Count 4) (between (occurs_on (rule Monthly 1 (Count 4) 0 0) (moment_of 2026 1 31 0 0 0 0)) (day_number 2026 1 31) (day_number 2026 9 1))
    ≡ day_number 2026 1 31 ∷ day_number 2026 3 31 ∷ day_number 2026 5 31 ∷ day_number 2026 7 31 ∷ []
unfolding holds held month_at leap_year month_length days_before_month days_of_years day_number years_before month_of year_of day_of_year month_of_day day_of
counted_four = refl

-- 29 February every 12 months passes over 1900, and every 300 months over 15 turns
pub leap_days :
    map (λ (s : ℕ). first_from (monthly 29) 12 s (suc s)) (day_number 1896 2 29 ∷ day_number 1904 2 29 ∷ []) ≡ day_number 1904 2 29 ∷ day_number 1908 2 29 ∷ []
unfolding
    first_from first_monthly up has_day day_in month_from seek month_at leap_year month_length days_before_month days_of_years day_number years_before month_of year_of
    day_of_year month_of_day day_of
leap_days = refl

pub sixteen_turns : first_from (monthly 29) 300 (day_number 2000 2 29) (suc (day_number 2000 2 29)) ≡ day_number 2400 2 29
unfolding
    first_from first_monthly up has_day day_in month_from seek month_at leap_year month_length days_before_month days_of_years day_number years_before month_of year_of
    day_of_year month_of_day day_of
sixteen_turns = refl

-- "every one has its time of day", milliseconds too
pub a_row : rows tuesday (day_number 2026 2 15 ∷ []) ≡ 2026 ∷ 2 ∷ 15 ∷ 9 ∷ 30 ∷ 15 ∷ 250 ∷ []
unfolding leap_year month_length days_before_month days_of_years day_number years_before month_of year_of day_of_year month_of_day day_of
a_row = refl
