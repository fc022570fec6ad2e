-- The moments that steps lead to, at a day, a minute, a month and a year: they are moments, and a moment's own place is itself.
use mathlib.Core.Path.{◌≡◌}
use Prim.Native.Nat.{ℕ, ◌+◌, ◌*◌, ◌/◌, ◌%◌, ◌≤◌, ◌<◌, min}
use native.Mathlib.Omega.{arith}
use Rattle.calendar.specs.Gregorian.{leap_year, month_length, days, IsDate}
use Rattle.calendar.specs.Moments.{IsMoment, day_of_moment, at_day, minute_number, minutes, at_minute}
use Rattle.calendar.specs.Moments.{month_number, months, in_month, years}
use Rattle.calendar.specs.declared.moments.Moment.{Moment}
use Rattle.calendar.proofs.Months.{month}
use Rattle.calendar.proofs.Dates.{is_date_lem, in_days, day_date, date_day}

-- the same time on a day of the calendar is a moment
pub at_day_moment : (n : ℕ) (t : Moment) → n < days → IsMoment t → IsMoment (at_day n t)
at_day_moment n t h v = record { date = is_date_lem n h; time = v.time }

-- and on the moment's own day it is the moment itself
pub at_own_day : (t : Moment) → IsMoment t → at_day (day_of_moment t) t ≡ t
at_own_day t v = let s = date_day v.date in rw (s.year, s.month, s.day)

-- a moment's minute is one of the calendar's
pub minute_below : (t : Moment) → IsMoment t → minute_number t < minutes
minute_below t v = omega (arith, in_days v.date)

-- a minute of the calendar is a moment
pub at_minute_moment : (n : ℕ) (t : Moment) → n < minutes → IsMoment t → IsMoment (at_minute n t)
at_minute_moment n t h v = record {
  date = is_date_lem (n / 1440) (omega arith);
  time = record { hour = omega arith; minute = omega arith; second = v.time.second; millisecond = v.time.millisecond };
}

-- of that minute
pub minute_at : (n : ℕ) (t : Moment) → minute_number (at_minute n t) ≡ n
minute_at n t = rw (day_date (n / 1440)) (omega arith)

-- a number of minutes, taken apart
module _ (n h m : ℕ) (hour : h < 24) (minute : m < 60) where
  day_of_lem : (1440 * n + 60 * h + m) / 1440 ≡ n
  day_of_lem = omega arith

  hour_of : (1440 * n + 60 * h + m) % 1440 / 60 ≡ h
  hour_of = omega arith

  minute_of_lem : (1440 * n + 60 * h + m) % 60 ≡ m
  minute_of_lem = omega arith

-- and at the moment's own minute it is the moment itself
pub at_own_minute : (t : Moment) → IsMoment t → at_minute (minute_number t) t ≡ t
at_own_minute t v =
    let n = day_of_moment t in
    let h = v.time.hour in
    let m = v.time.minute in
    rw (day_of_lem n _ _ h m, hour_of n _ _ h m, minute_of_lem n _ _ h m) (at_own_day t v)

-- a moment's month is one of the calendar's
pub month_below : (t : Moment) → IsMoment t → month_number t < months
month_below t v = omega (arith, v.date)

-- the same day and time in a month of the calendar, or its last day, is a moment
pub in_month_moment : (n : ℕ) (t : Moment) → n < months → IsMoment t → IsMoment (in_month n t)
in_month_moment n t h v =
    let l = (month (leap_year (n / 12 + 1)) (n % 12 + 1) (omega arith) (omega arith)).least in
    record {
      date = record {
        year_low = omega arith;
        year_high = omega arith;
        month_low = omega arith;
        month_high = omega arith;
        day_low = omega arith;
        day_high = omega arith;
      };
      time = v.time;
    }

-- and in the moment's own month it is the moment itself
pub in_own_month : (t : Moment) → IsMoment t → in_month (month_number t) t ≡ t
in_own_month t v =
    let d = v.date in
    let year : month_number t / 12 + 1 ≡ t.year = omega (arith, d) in
    let month : month_number t % 12 + 1 ≡ t.month = omega (arith, d) in
    let day : min t.day (month_length (leap_year t.year) t.month) ≡ t.day = omega (arith, d) in
    rw (year, month, day)

-- a moment's month and day in a year of the calendar that has the day are a date
pub in_year_date : {n : ℕ} (t : Moment) → IsMoment t → n < years → t.day ≤ month_length (leap_year (n + 1)) t.month →
    IsDate (n + 1) t.month t.day
in_year_date t v h l = record {
  year_low = omega arith;
  year_high = omega arith;
  month_low = v.date.month_low;
  month_high = v.date.month_high;
  day_low = v.date.day_low;
  day_high = l;
}
