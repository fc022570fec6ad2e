-- The order of dates by year, month and day, which is that of their day numbers; and of the dates that as many months or years lead to.
use mathlib.Core.Path.{◌≡◌, refl}
use mathlib.Core.Bool.{Bool, true}
use mathlib.Core.Logic.{⊎_elim}
use Prim.Native.Nat.{ℕ, ◌+◌, ◌-◌, ◌/◌, ◌≤◌, ◌<◌}
use native.Mathlib.Omega.{arith}
use native.Mathlib.Nat.{eq-or-lt_of_le}
use Rattle.calendar.specs.Gregorian.{day_number, IsDate}
use Rattle.calendar.specs.Moments.{IsMoment, day_of_moment, moved, has_room, month_number, months, in_month, year_number, years}
use Rattle.calendar.specs.declared.moments.Moment.{Moment}
use Rattle.calendar.proofs.Rooms.{below_limit, moved_apart}
use Rattle.calendar.proofs.Dates.{Before, by_year_lem, by_month, by_day, Same, compared, day_order}
use Rattle.calendar.proofs.Places.{month_below, in_month_moment}

-- one date is before another or the same
data UpTo (y m d z k e : ℕ) : Type 0 where
  in_year_lem : y < z → UpTo y m d z k e
  in_month_lem : y ≡ z → m < k → UpTo y m d z k e
  on_day_lem : y ≡ z → m ≡ k → d ≤ e → UpTo y m d z k e

-- a day number that is not larger is that of a date that is not later
order_dates : {y m d z k e : ℕ} → IsDate y m d → IsDate z k e → day_number y m d ≤ day_number z k e → UpTo y m d z k e
order_dates {y} {m} {d} {z} {k} {e} v w h =
    ⊎_elim before (⊎_elim same (λ b. absurd (omega (arith, day_order w v b)))) (compared y m d z k e)
  where
    same : Same y m d z k e → UpTo y m d z k e
    same s = on_day_lem s.year s.month (omega (arith, s.day))

    before : Before y m d z k e → UpTo y m d z k e
    before (by_year_lem l) = in_year_lem l
    before (by_month p l) = in_month_lem p l
    before (by_day p q l) = on_day_lem p q (omega arith)

-- and the other way
dates_order : {y m d z k e : ℕ} → IsDate y m d → IsDate z k e → UpTo y m d z k e → day_number y m d ≤ day_number z k e
dates_order v w (in_year_lem l) = omega (arith, day_order v w (by_year_lem l))
dates_order v w (in_month_lem p l) = omega (arith, day_order v w (by_month p l))
dates_order {y} {m} {d} {z} {k} {e} v w (on_day_lem p q h) =
    ⊎_elim (λ (r : d ≡ e). rw (p, q, r) (omega arith)) (λ l. omega (arith, day_order v w (by_day p q l))) (eq-or-lt_of_le h)

-- the year of a date that is not later is not later
years_order : {y m d z k e : ℕ} → UpTo y m d z k e → y ≤ z
years_order (in_year_lem l) = omega arith
years_order (in_month_lem p l) = omega arith
years_order (on_day_lem p q h) = omega arith

-- one month and day in two years
pub same_date : {y z m d : ℕ} → IsDate y m d → IsDate z m d → y ≤ z → day_number y m d ≤ day_number z m d
same_date v w h = dates_order v w (⊎_elim (λ p. on_day_lem p refl (omega arith)) in_year_lem (eq-or-lt_of_le h))

-- a month before another; or the same month, and a day that is not later
pub data MonthUpTo (n d m e : ℕ) : Type 0 where
  earlier_month : n < m → MonthUpTo n d m e
  same_month : n ≡ m → d ≤ e → MonthUpTo n d m e

-- the days that a moment has in months in order: kept, or the month's last, in both
pub in_months :
    {t u : Moment} (n m : ℕ) → IsMoment t → IsMoment u → n < months → m < months → MonthUpTo n t.day m u.day →
    day_of_moment (in_month n t) ≤ day_of_moment (in_month m u)
in_months {t} {u} n m v w f g s = dates_order (in_month_moment n t f v).date (in_month_moment m u g w).date (go s)
  where
    go : MonthUpTo n t.day m u.day →
        UpTo (in_month n t).year (in_month n t).month (in_month n t).day (in_month m u).year (in_month m u).month (in_month m u).day
    go (earlier_month l) =
        let years : n / 12 ≤ m / 12 = omega arith in
        ⊎_elim (λ p. in_month_lem (omega arith) (omega arith)) (λ h. in_year_lem (omega arith)) (eq-or-lt_of_le years)
    go (same_month p l) = rw p (on_day_lem refl refl (omega arith))

-- two moments, the first on a day that is not later
module _ {t u : Moment} (v : IsMoment t) (w : IsMoment u) (h : day_of_moment t ≤ day_of_moment u) where
  up_to : UpTo t.year t.month t.day u.year u.month u.day
  up_to = order_dates v.date w.date h

  -- the year of the first is not later
  pub own_years : t.year ≤ u.year
  own_years = years_order up_to

  -- as many months lead to days in order
  pub months_keep_order :
      (back : Bool) (k : ℕ) → has_room back k (month_number t) months ≡ true → has_room back k (month_number u) months ≡ true →
      day_of_moment (in_month (moved back k (month_number t)) t) ≤ day_of_moment (in_month (moved back k (month_number u)) u)
  months_keep_order back k e f =
      in_months _ _ v w (below_limit back k _ months (month_below t v) e) (below_limit back k _ months (month_below u w) f) (go up_to)
    where
      on : month_number t ≤ month_number u → moved back k (month_number u) ≡ moved back k (month_number t) + (month_number u - month_number t)
      on = moved_apart back k (month_number t) (month_number u) months e

      go : UpTo t.year t.month t.day u.year u.month u.day →
          MonthUpTo (moved back k (month_number t)) t.day (moved back k (month_number u)) u.day
      go (in_year_lem l) = earlier_month (omega (arith, v.date, w.date, on (omega (arith, v.date, w.date))))
      go (in_month_lem p l) = earlier_month (omega (arith, v.date, w.date, on (omega (arith, v.date, w.date))))
      go (on_day_lem p q l) = same_month (rw (p, q)) l

  -- and so do as many years
  pub years_keep_order :
      (back : Bool) (k : ℕ) → has_room back k (year_number t) years ≡ true →
      IsDate (moved back k (year_number t) + 1) t.month t.day → IsDate (moved back k (year_number u) + 1) u.month u.day →
      day_number (moved back k (year_number t) + 1) t.month t.day ≤ day_number (moved back k (year_number u) + 1) u.month u.day
  years_keep_order back k e a b = dates_order a b (go up_to)
    where
      go : UpTo t.year t.month t.day u.year u.month u.day →
          UpTo (moved back k (year_number t) + 1) t.month t.day (moved back k (year_number u) + 1) u.month u.day
      go (in_year_lem l) =
          let on = moved_apart back k (year_number t) (year_number u) years e (omega arith) in
          in_year_lem (omega (arith, v.date, w.date))
      go (in_month_lem p l) = in_month_lem (rw p) l
      go (on_day_lem p q l) = on_day_lem (rw p) q l
