-- What passes the tests of dates, times and moments is one, and the other way.
use mathlib.Core.Path.{◌≡◌, refl}
use mathlib.Core.Bool.{true, and-eq-true_iff}
use Prim.Native.Nat.{ℕ, ◌≤◌}
use lib.Dec.{leb, ltb}
use borrow.Author.Tests.{leb-true, ltb-true, le-leb, lt-ltb}
use native.Mathlib.Omega.{arith}
use Rattle.calendar.proofs.Months.{month}
use Rattle.calendar.specs.Gregorian.{leap_year, month_length, IsDate}
use Rattle.calendar.specs.Moments.{IsTime, IsMoment, in_range, is_day_of_month, is_date, is_time, is_moment, first_moment}
use Rattle.calendar.specs.declared.moments.Moment.{Moment}

-- what passes the test of a range is in it
pub test_range : (n low high : ℕ) → in_range n low high ≡ true → (low ≤ n) × (n ≤ high)
test_range n low high e = let b = (and-eq-true_iff (leb low n) (leb n high)).0 e in (leb-true _ _ b.0, leb-true _ _ b.1)

-- every month has the days up to its 28th
pub early_day : (y m d : ℕ) → 1 ≤ m → m ≤ 12 → 1 ≤ d → d ≤ 28 → is_day_of_month y m d ≡ true
early_day y m d a b f g =
    let least = (month (leap_year y) m a b).least in
    rw (le-leb 1 m a, le-leb m 12 b, le-leb 1 d f, le-leb d (month_length (leap_year y) m) (omega (arith, least, g)))

-- what passes as a date is one
pub test_date : (y m d : ℕ) → is_date y m d ≡ true → IsDate y m d
unfolding is_date
test_date y m d e =
    let a = (and-eq-true_iff (in_range y 1 9999) _).0 e in
    let b = (and-eq-true_iff (in_range m 1 12) _).0 a.1 in
    let year = test_range y 1 9999 a.0 in
    let month = test_range m 1 12 b.0 in
    let day = test_range d 1 (month_length (leap_year y) m) b.1 in
    record {
      year_low = year.0;
      year_high = year.1;
      month_low = month.0;
      month_high = month.1;
      day_low = day.0;
      day_high = day.1;
    }

-- what passes as a time of day is one
pub test_time : (h m s ms : ℕ) → is_time h m s ms ≡ true → IsTime h m s ms
unfolding is_time
test_time h m s ms e =
    let a = (and-eq-true_iff (ltb h 24) _).0 e in
    let b = (and-eq-true_iff (ltb m 60) _).0 a.1 in
    let d = (and-eq-true_iff (ltb s 60) _).0 b.1 in
    record {
      hour = ltb-true _ _ a.0;
      minute = ltb-true _ _ b.0;
      second = ltb-true _ _ d.0;
      millisecond = ltb-true _ _ d.1;
    }

-- the day of a date passes, and so do a time of day and a moment
pub day_passes : {y m d : ℕ} → IsDate y m d → is_day_of_month y m d ≡ true
day_passes h =
    rw (le-leb _ _ h.month_low, le-leb _ _ h.month_high, le-leb _ _ h.day_low, le-leb _ _ h.day_high)

pub time_passes : {h m s ms : ℕ} → IsTime h m s ms → is_time h m s ms ≡ true
unfolding is_time
time_passes t =
    rw (lt-ltb _ _ t.hour, lt-ltb _ _ t.minute, lt-ltb _ _ t.second, lt-ltb _ _ t.millisecond)

pub moment_passes : {t : Moment} → IsMoment t → is_moment t ≡ true
unfolding is_moment is_date
moment_passes v =
    rw (le-leb _ _ v.date.year_low, le-leb _ _ v.date.year_high, day_passes v.date, time_passes v.time)

-- what passes as a moment is one
pub test_moment : (t : Moment) → is_moment t ≡ true → IsMoment t
unfolding is_moment
test_moment t e =
    let a = (and-eq-true_iff (is_date t.year t.month t.day) _).0 e in
    record { date = test_date _ _ _ a.0; time = test_time _ _ _ _ a.1 }

-- the first moment is one
pub first_moment_lem : IsMoment first_moment
unfolding is_moment is_date is_time month_length leap_year
first_moment_lem = test_moment first_moment refl
