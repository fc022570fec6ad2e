-- Worked cases, computed on the list: the start is Tuesday 2026-02-10 09:30:15.250 unless another is named.
use Rattle.std.specs.Prelude.{ℕ, ◌≡◌, refl}
use Rattle.refusals.specs.declared.Reason.TheVariants.{NoNext, NoStart}
use Rattle.refusals.specs.Answers.{given, refuse}
use Rattle.calendar.specs.Gregorian.{leap_year, month_length, days_before_month, days_of_years, day_number, years_before, year_of, day_of_year, month_of, month_of_day, day_of}
use Rattle.calendar.specs.Moments.{moment_of}
use Rattle.calendar.specs.declared.moments.Moment.{Moment}
use Rattle.rules.specs.declared.Freq.{Freq}
use Rattle.rules.specs.declared.Freq.TheVariants.{Daily, Weekly}
use Rattle.rules.specs.declared.Bound.{Bound}
use Rattle.rules.specs.declared.Bound.TheVariants.{UntilDay}
use Rattle.rules.specs.declared.Rule.{Rule}
use Rattle.repeats.specs.Held.{held}
use Rattle.repeats.specs.Occurrences.{holds, occurrences, start_fits, days_of}
use Rattle.coming.specs.Next.{first_after, next_of}

-- a rule without BYDAY and BYMONTHDAY
abbrev pub plain : Freq → ℕ → Bound → Rule
plain f i b = record { freq = f; interval = i; bound = b; days = 0; day = 0 }

-- the start's time of day on a date
abbrev pub on : ℕ → ℕ → ℕ → Moment
on y m d = moment_of y m d 9 30 15 250

-- an UNTIL that ends the list soon, so that it can be computed
abbrev near : Bound
near = UntilDay 2026 2 28

-- asked before the start: the start
before_start : next_of (plain Daily 1 near) (on 2026 2 10) (on 2026 2 1) ≡ given (on 2026 2 10)
unfolding next_of first_after days_of start_fits occurrences held holds day_number days_of_years days_before_month month_length leap_year years_before year_of day_of_year month_of month_of_day day_of
before_start = refl

-- asked exactly at an occurrence: that one
exactly : next_of (plain Daily 2 near) (on 2026 2 10) (on 2026 2 12) ≡ given (on 2026 2 12)
unfolding next_of first_after days_of start_fits occurrences held holds day_number days_of_years days_before_month month_length leap_year years_before year_of day_of_year month_of month_of_day day_of
exactly = refl

-- one millisecond after it: the next one
just_after : next_of (plain Daily 2 near) (on 2026 2 10) (moment_of 2026 2 12 9 30 15 251) ≡ given (on 2026 2 14)
unfolding next_of first_after days_of start_fits occurrences held holds day_number days_of_years days_before_month month_length leap_year years_before year_of day_of_year month_of month_of_day day_of
just_after = refl

-- UNTIL is looked at
after_until : next_of (plain Daily 1 (UntilDay 2026 2 12)) (on 2026 2 10) (moment_of 2026 2 12 9 30 15 251) ≡ refuse NoNext 0 0
unfolding next_of first_after days_of start_fits occurrences held holds day_number days_of_years days_before_month month_length leap_year years_before year_of day_of_year month_of month_of_day day_of
after_until = refl

-- 19 comes before 20
no_start : next_of (plain Weekly 1 (UntilDay 2026 2 9)) (on 2026 2 10) (on 2026 2 11) ≡ refuse NoStart 0 0
unfolding next_of first_after days_of start_fits occurrences held holds day_number days_of_years days_before_month month_length leap_year years_before year_of day_of_year month_of month_of_day day_of
no_start = refl
