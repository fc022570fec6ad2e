-- Worked cases whose list is long, by the closed forms.
use mathlib.Core.Path.{◌≡◌, refl}
use mathlib.Core.Bool.{true}
use Prim.Native.Nat.{ℕ, ◌≤◌}
use native.Mathlib.Omega.{arith}
use Rattle.refusals.specs.declared.Reason.TheVariants.{NoNext}
use Rattle.refusals.specs.Answers.{given, refuse}
use Rattle.calendar.specs.Gregorian.{leap_year, month_length, days_before_month, days_of_years, day_number, years_before, year_of, day_of_year, month_of, month_of_day, day_of}
use Rattle.calendar.specs.Moments.{is_moment, is_date, is_time, moment_of}
use Rattle.calendar.specs.declared.moments.Moment.{Moment}
use Rattle.calendar.proofs.Valid.{test_moment}
use Rattle.rules.specs.Rule.{IsBound, IsRule}
use Rattle.rules.specs.declared.Bound.{Bound}
use Rattle.rules.specs.declared.Freq.TheVariants.{Monthly}
use Rattle.rules.specs.declared.Bound.TheVariants.{Endless, Count}
use Rattle.rules.specs.declared.Rule.{Rule}
use Rattle.repeats.specs.Held.{seek}
use Rattle.repeats.specs.Occurrences.{month_at, holds, start_fits}
use Rattle.repeats.specs.Courses.{course_of, repeat_in}
use Rattle.std.proofs.Common.{Ok}
use Rattle.repeats.specs.Firsts.{up, has_day, day_in, month_from, first_monthly, first_from}
use Rattle.coming.specs.Counts.{count_before, count_monthly, months_with, leaps, sum}
use Rattle.coming.specs.Next.{next_of, asked_day, next_day, moment_or}
use Rattle.coming.specs.Cases.{plain, on}
use Rattle.coming.proofs.Closed.{next_closed}

-- a rule of the cases
monthly_rule : (i : ℕ) (b : Bound) → 1 ≤ i → i ≤ 999 → IsBound b → IsRule (plain Monthly i b)
monthly_rule i b h g v = record { least = h; most = g; bound = v }

-- the law `next_closed`, where the moments are tested
asks : (r : Rule) (t asked : Moment) → IsRule r → is_moment t ≡ true → is_moment asked ≡ true → start_fits r t ≡ true →
    let c = course_of r t in next_of r t asked ≡ moment_or t (next_day (repeat_in c) c.interval c.start c.limit c.count (asked_day t asked))
asks r t asked v m w e = (next_closed r t (Ok (course_of r t)) (rw e) (course_of r t) refl v (test_moment t m)).closed asked (test_moment asked w)

-- FREQ=MONTHLY from 2026-01-31 has 01, 03, 05 and 07: months that are passed over are not counted
fourth : next_of (plain Monthly 1 (Count 4)) (on 2026 1 31) (on 2026 7 31) ≡ given (on 2026 7 31)
unfolding start_fits holds is_moment is_date is_time next_day first_from first_monthly has_day day_in seek count_before count_monthly months_with leaps up sum month_from month_at
fourth =
    unfold day_number days_of_years days_before_month month_length leap_year years_before year_of day_of_year month_of month_of_day day_of in
    asks (plain Monthly 1 (Count 4)) (on 2026 1 31) (on 2026 7 31) (monthly_rule 1 (Count 4) (omega arith) (omega arith) (omega arith)) refl refl refl

-- with COUNT=4 asked 08-01 it is 20
no_fifth : next_of (plain Monthly 1 (Count 4)) (on 2026 1 31) (on 2026 8 1) ≡ refuse NoNext 0 0
unfolding start_fits holds is_moment is_date is_time next_day first_from first_monthly has_day day_in seek count_before count_monthly months_with leaps up sum month_from month_at
no_fifth =
    unfold day_number days_of_years days_before_month month_length leap_year years_before year_of day_of_year month_of month_of_day day_of in
    asks (plain Monthly 1 (Count 4)) (on 2026 1 31) (on 2026 8 1) (monthly_rule 1 (Count 4) (omega arith) (omega arith) (omega arith)) refl refl refl

-- without COUNT it is 08-31
fifth : next_of (plain Monthly 1 Endless) (on 2026 1 31) (on 2026 8 1) ≡ given (on 2026 8 31)
unfolding start_fits holds is_moment is_date is_time next_day first_from first_monthly has_day day_in seek count_before count_monthly months_with leaps up sum month_from month_at
fifth =
    unfold day_number days_of_years days_before_month month_length leap_year years_before year_of day_of_year month_of month_of_day day_of in
    asks (plain Monthly 1 Endless) (on 2026 1 31) (on 2026 8 1) (monthly_rule 1 Endless (omega arith) (omega arith) tt) refl refl refl

-- 29 February comes in leap years only, and not in 1900
leap_day_lem : next_of (plain Monthly 12 (Count 2)) (on 1896 2 29) (on 1896 3 1) ≡ given (on 1904 2 29)
unfolding start_fits holds is_moment is_date is_time next_day first_from first_monthly has_day day_in seek count_before count_monthly months_with leaps up sum month_from month_at
leap_day_lem =
    unfold day_number days_of_years days_before_month month_length leap_year years_before year_of day_of_year month_of month_of_day day_of in
    asks (plain Monthly 12 (Count 2)) (on 1896 2 29) (on 1896 3 1) (monthly_rule 12 (Count 2) (omega arith) (omega arith) (omega arith)) refl refl refl

-- every 25 years it comes again after 400
leap_cycle : next_of (plain Monthly 300 (Count 2)) (on 2000 2 29) (moment_of 2000 2 29 9 30 15 251) ≡ given (on 2400 2 29)
unfolding start_fits holds is_moment is_date is_time next_day first_from first_monthly has_day day_in seek count_before count_monthly months_with leaps up sum month_from month_at
leap_cycle =
    unfold day_number days_of_years days_before_month month_length leap_year years_before year_of day_of_year month_of month_of_day day_of in
    asks (plain Monthly 300 (Count 2)) (on 2000 2 29) (moment_of 2000 2 29 9 30 15 251) (monthly_rule 300 (Count 2) (omega arith) (omega arith) (omega arith)) refl refl refl

-- and is then used up
leap_end : next_of (plain Monthly 300 (Count 2)) (on 2000 2 29) (moment_of 2400 2 29 9 30 15 251) ≡ refuse NoNext 0 0
unfolding start_fits holds is_moment is_date is_time next_day first_from first_monthly has_day day_in seek count_before count_monthly months_with leaps up sum month_from month_at
leap_end =
    unfold day_number days_of_years days_before_month month_length leap_year years_before year_of day_of_year month_of month_of_day day_of in
    asks (plain Monthly 300 (Count 2)) (on 2000 2 29) (moment_of 2400 2 29 9 30 15 251) (monthly_rule 300 (Count 2) (omega arith) (omega arith) (omega arith)) refl refl refl
