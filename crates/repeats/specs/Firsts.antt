-- The least day from another on at which a rule holds, in closed forms that laws pin to the definition.
use Rattle.std.specs.Prelude.{ℕ, suc, ◌+◌, ◌-◌, ◌*◌, ◌/◌, ◌%◌, Bool, cond, ◌&&◌, leb, ltb}
use Rattle.calendar.specs.Gregorian.{leap_year, month_length, day_number, day_of}
use Rattle.repeats.specs.Held.{one, seek}
use Rattle.repeats.specs.Occurrences.{Repeat, daily, divides, month_at, monthly, weekly}

-- n over i, rounded up
unfoldable pub up : ℕ → ℕ → ℕ
up i n = (n + (i - 1)) / i

-- does month n have a day d?
unfoldable pub has_day : ℕ → ℕ → Bool
has_day d n = leb d (month_length (leap_year (n / 12 + 1)) (n % 12 + 1))

-- day d of month n
unfoldable pub day_in : ℕ → ℕ → ℕ
day_in d n = day_number (n / 12 + 1) (n % 12 + 1) d

-- the first month whose day d, if it has one, is at or after day b
unfoldable pub month_from : ℕ → ℕ → ℕ
month_from d b = month_at b + one (ltb d (day_of b))

-- the least day from b on, s ≤ b, at which the rule holds: the next multiple of the interval
unfoldable pub first_daily : ℕ → ℕ → ℕ → ℕ
first_daily i s b = s + i * up i (b - s)

-- the set's next day in b's week, if the week counts and has one, else the set's first day in the next week that counts
unfoldable pub first_weekly : (ℕ → Bool) → ℕ → ℕ → ℕ → ℕ
first_weekly w i s b =
    let here = seek w (b % 7) (7 - b % 7) in
    cond (divides i (b / 7 - s / 7) && ltb here 7) (7 * (b / 7) + here) (7 * (s / 7 + i * up i (suc (b / 7 - s / 7))) + seek w 0 7)

-- the first of the rule's months from b's on that has the day; 16 are looked at
unfoldable pub first_monthly : ℕ → ℕ → ℕ → ℕ → ℕ
first_monthly d i s b =
    let m = month_at s in day_in d (m + i * seek (λ t. has_day d (m + i * t)) (up i (month_from d b - m)) 16)

-- the closed forms by the rule's frequency
unfoldable pub first_from : Repeat → ℕ → ℕ → ℕ → ℕ
first_from daily i s b = first_daily i s b
first_from (weekly w) i s b = first_weekly w i s b
first_from (monthly d) i s b = first_monthly d i s b
