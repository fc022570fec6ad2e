-- How many occurrences lie before a day, in closed forms that laws pin to the definition.
use Rattle.std.specs.Prelude.{ℕ, zero, suc, ◌+◌, ◌-◌, ◌*◌, ◌/◌, ◌%◌, Bool, true, false, cond, leb}
use Rattle.calendar.specs.Gregorian.{leap_year, month_length}
use Rattle.repeats.specs.Firsts.{month_from, up}
use Rattle.repeats.specs.Held.{one}
use Rattle.repeats.specs.Occurrences.{Repeat, daily, divides, month_at, monthly, weekly}

-- how many numbers below n there are at which P holds
unfoldable pub count : (ℕ → Bool) → ℕ → ℕ
count P zero = 0
count P (suc n) = count P n + one (P n)

-- f r for each r below n, added up
unfoldable pub sum : (ℕ → ℕ) → ℕ → ℕ
sum f zero = 0
sum f (suc n) = sum f n + f n

-- how many days from s on below b hold
unfoldable pub count_daily : ℕ → ℕ → ℕ → ℕ
count_daily i s b = up i (b - s)

-- the days of the set in the weeks that count, from the Monday of the start's week on below b
unfoldable pub rank : (ℕ → Bool) → ℕ → ℕ → ℕ → ℕ
rank w i s b = count w 7 * up i (b / 7 - s / 7) + cond (divides i (b / 7 - s / 7)) (count w (b % 7)) 0

-- less those before the start
unfoldable pub count_weekly : (ℕ → Bool) → ℕ → ℕ → ℕ → ℕ
count_weekly w i s b = rank w i s b - rank w i s s

-- leap years among the u years y, y + i, ..: after 400 turns a year of the same kind comes
unfoldable pub leaps : ℕ → ℕ → ℕ → ℕ
leaps y i u = sum (λ v. one (leap_year (y + i * v)) * up 400 (u - v)) 400

-- of u turns 12 apart, in the months n, n + 12 i, .., those whose month has day d
abbrev pub turns_with : ℕ → ℕ → ℕ → ℕ → ℕ
turns_with d i n u =
    cond (leb d (month_length false (n % 12 + 1))) u (cond (leb d (month_length true (n % 12 + 1))) (leaps (n / 12 + 1) i u) 0)

-- of the first t months of a rule from month m on, those that have day d: by the remainder r of a month's turn by 12,
-- since 12 turns later the same month of the year comes, i years on
unfoldable pub months_with : ℕ → ℕ → ℕ → ℕ → ℕ
months_with d i m t = sum (λ r. turns_with d i (m + i * r) (up 12 (t - r))) 12

unfoldable pub count_monthly : ℕ → ℕ → ℕ → ℕ → ℕ
count_monthly d i s b = months_with d i (month_at s) (up i (month_from d b - month_at s))

unfoldable pub count_before : Repeat → ℕ → ℕ → ℕ → ℕ
count_before daily i s b = count_daily i s b
count_before (weekly w) i s b = count_weekly w i s b
count_before (monthly d) i s b = count_monthly d i s b
