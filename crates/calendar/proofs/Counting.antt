-- The calendar as one would count it: the day after has the next number.
use mathlib.Core.Path.{◌≡◌, refl}
use Prim.Native.Nat.{ℕ, ◌+◌, ◌-◌, ◌≤◌}
use native.Mathlib.Omega.{arith}
use native.Mathlib.Numerals.{add-one}
use Rattle.calendar.specs.Gregorian.{leap_year, month_length, days_before_month, days_of_years, day_number}
use Rattle.calendar.proofs.Leap.{year_step}
use Rattle.calendar.proofs.Months.{month_step, months_year}

-- the last day
pub last_day : day_number 9999 12 31 ≡ 3652058
unfolding day_number days_of_years days_before_month month_length leap_year
last_day = refl

-- the day after, in the same month
pub next_day_lem : (y m d : ℕ) → 1 ≤ d → day_number y m (d + 1) ≡ day_number y m d + 1
unfolding day_number
next_day_lem y m d h = omega arith

-- the day after a month's last is the first of the next month
pub next_month : (y m : ℕ) → 1 ≤ month_length (leap_year y) m → day_number y (m + 1) 1 ≡ day_number y m (month_length (leap_year y) m) + 1
unfolding day_number
next_month y m h = rw (add-one m) (omega (arith, month_step (leap_year y) m))

year_begins : (x : ℕ) → day_number (x + 1) 1 1 ≡ days_of_years x
unfolding day_number days_before_month month_length
year_begins x = rw (back x) (omega arith)
  where
    back : (x : ℕ) → x + 1 - 1 ≡ x
    back x = omega arith

year_ends : (y : ℕ) → 1 ≤ y → day_number y 12 31 + 1 ≡ days_of_years y
unfolding day_number month_length
year_ends y h =
    let next : y - 1 + 1 ≡ y = omega arith in
    omega (arith, rw next at (year_step (y - 1)), month_step (leap_year y) 12, months_year (leap_year y))

-- the day after 31 December is the first of the next year
pub next_year : (y : ℕ) → 1 ≤ y → day_number (y + 1) 1 1 ≡ day_number y 12 31 + 1
next_year y h = omega (arith, year_begins y, year_ends y h)
