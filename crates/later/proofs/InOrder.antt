-- Two moments with the same time of day, the first on a day that is not later: what every step keeps.
use Prim.Native.Nat.{ℕ, ◌+◌, ◌*◌, ◌/◌, ◌≤◌}
use native.Mathlib.Omega.{arith}
use mathlib.Core.Path.{◌≡◌, refl}
use Rattle.calendar.specs.Gregorian.{day_number}
use Rattle.calendar.specs.Moments.{day_of_moment, with_date, with_time, at_day, at_minute, NotAfter}
use Rattle.calendar.specs.declared.moments.Moment.{Moment}
use Rattle.calendar.proofs.Dates.{day_date}
use Rattle.later.specs.Nows.{SameTime}

pub record InOrder (t u : Moment) : Type 0 where
  pub time : SameTime t u
  pub day : day_of_moment t ≤ day_of_moment u

-- with the same time of day, that is not after by the instant
pub in_order : {t u : Moment} → SameTime t u → NotAfter t u → InOrder t u
in_order s h = record { time = s; day = omega (arith, s) }

-- and the other way
pub not_after : {t u : Moment} → InOrder t u → NotAfter t u
not_after a = omega (arith, a.time, a.day)

-- on dates in order
pub on_dates :
    {t u : Moment} (y m d z k e : ℕ) → SameTime t u → day_number y m d ≤ day_number z k e → InOrder (with_date y m d t) (with_date z k e u)
on_dates y m d z k e s h =
    record {
      time = record { hour = s.hour; minute = s.minute; second = s.second; millisecond = s.millisecond };
      day = h;
    }

-- on days in order
pub on_days : {t u : Moment} (n m : ℕ) → SameTime t u → n ≤ m → InOrder (at_day n t) (at_day m u)
on_days n m s h = on_dates _ _ _ _ _ _ s (rw (day_date n, day_date m) h)

-- at minutes that lie whole days apart
pub at_minutes : {t u : Moment} (n m j : ℕ) → SameTime t u → m ≡ n + 1440 * j → InOrder (at_minute n t) (at_minute m u)
at_minutes n m j s h =
    record {
      time = record { hour = omega arith; minute = omega arith; second = s.second; millisecond = s.millisecond };
      day = rw (day_date (n / 1440), day_date (m / 1440)) (omega arith);
    }

-- at the times of day of two others
pub at_times :
    {n k t u : Moment} → SameTime n k → InOrder t u →
    InOrder (with_time n.hour n.minute n.second n.millisecond t) (with_time k.hour k.minute k.second k.millisecond u)
at_times s a =
    record {
      time = record { hour = s.hour; minute = s.minute; second = s.second; millisecond = s.millisecond };
      day = a.day;
    }

-- a moment has its own time of day
pub own_time : (t : Moment) → SameTime t t
own_time t = record { hour = refl; minute = refl; second = refl; millisecond = refl }
