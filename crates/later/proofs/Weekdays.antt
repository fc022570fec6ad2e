-- Weekdays: from days in order one comes to days in order, in a week, on to a weekday and back to one.
use Prim.Native.Nat.{ℕ, ◌+◌, ◌-◌, ◌%◌, ◌≤◌, ◌<◌}
use native.Mathlib.Omega.{arith}
use mathlib.Core.Path.{◌≡◌}
use lib.Dec.{leb, ltb}
use borrow.Author.Tests.{leb-true}
use Rattle.calendar.specs.Gregorian.{days, weekday}
use Rattle.calendar.specs.Moments.{day_of_moment, on_day}
use Rattle.calendar.specs.declared.moments.Moment.{Moment}
use Rattle.dates.specs.declared.units.RelativeSpecifier.{RelativeSpecifier}
use Rattle.dates.specs.declared.units.RelativeSpecifier.TheVariants.{This, Next, Last}
use Rattle.evaluation.specs.Weekdays.{monday_of, days_back, in_week, forward_to, back_to}
use Rattle.later.proofs.InOrder.{InOrder, on_days}
use Rattle.later.proofs.Outcomes.{Kept, both, tested}

-- the Mondays of their weeks
mondays : (n m : ℕ) → n ≤ m → monday_of n ≤ monday_of m
mondays n m h = omega arith

-- the first day of a weekday from a day on
record FirstOn (n w r : ℕ) : Type 0 where
  same : r % 7 ≡ w
  from : n ≤ r
  week : r < n + 7

first_on : (n w : ℕ) → w < 7 → FirstOn n w (n + (7 + w - weekday n) % 7)
first_on n w h = record { same = omega arith; from = omega arith; week = omega arith }

-- the last day of a weekday up to a day
record LastOn (n w r : ℕ) : Type 0 where
  same : r % 7 ≡ w
  till : r ≤ n
  week : n < r + 7

last_on : (n w : ℕ) → w < 7 → (7 + weekday n - w) % 7 ≤ n → LastOn n w (n - (7 + weekday n - w) % 7)
last_on n w h f = record { same = omega arith; till = omega arith; week = omega arith }

-- they are in order
firsts : (n m w r s : ℕ) → n ≤ m → FirstOn n w r → FirstOn m w s → r ≤ s
firsts n m w r s h a b = omega (arith, a, b)

lasts : (n m w r s : ℕ) → n ≤ m → LastOn n w r → LastOn m w s → r ≤ s
lasts n m w r s h a b = omega (arith, a, b)

module _ {t u : Moment} (a : InOrder t u) where
  -- on days in order
  day_kept : (n m : ℕ) → n ≤ m → Kept (on_day n t) (on_day m u)
  unfolding on_day
  day_kept n m h = tested (ltb n days) (ltb m days) _ _ _ (λ e f. both (on_days n m a.time h))

  -- so many days before two days
  back_kept : (n b m c : ℕ) → (b ≤ n → c ≤ m → n - b ≤ m - c) → Kept (days_back n b t) (days_back m c u)
  unfolding days_back
  back_kept n b m c h = tested (leb b n) (leb c m) _ _ _ (λ e f. day_kept (n - b) (m - c) (h (leb-true _ _ e) (leb-true _ _ f)))

  -- the three rules
  pub in_week_kept : (s : RelativeSpecifier) (w : ℕ) → Kept (in_week s w t) (in_week s w u)
  in_week_kept This w = day_kept _ _ (omega (arith, mondays (day_of_moment t) (day_of_moment u) a.day))
  in_week_kept Next w = day_kept _ _ (omega (arith, mondays (day_of_moment t) (day_of_moment u) a.day))
  in_week_kept Last w = back_kept _ _ _ _ (λ f g. omega (arith, mondays (day_of_moment t) (day_of_moment u) a.day))

  pub forward_to_kept : (w : ℕ) → w < 7 → Kept (forward_to w t) (forward_to w u)
  forward_to_kept w h = day_kept _ _ (firsts _ _ w _ _ a.day (first_on (day_of_moment t) w h) (first_on (day_of_moment u) w h))

  pub back_to_kept : (w : ℕ) → w < 7 → Kept (back_to w t) (back_to w u)
  back_to_kept w h =
      back_kept _ _ _ _ (λ f g. lasts _ _ w _ _ a.day (last_on (day_of_moment t) w h f) (last_on (day_of_moment u) w h g))
