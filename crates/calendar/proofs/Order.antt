-- The order of moments by their instant: it tells moments apart, a step on is not before, and a step back is not after.
use mathlib.Core.Path.{◌≡◌, refl, sym, ◌∙◌}
use mathlib.Core.Bool.{Bool, true, false, cond}
use mathlib.Core.Logic.{⊎_elim}
use Prim.Native.Nat.{ℕ, ◌+◌, ◌-◌, ◌≤◌, ◌<◌}
use native.Mathlib.Omega.{arith}
use native.Mathlib.Nat.{eq-or-lt_of_le}
use lib.Dec.{leb}
use borrow.Author.Tests.{leb-true}
use Rattle.calendar.specs.Gregorian.{leap_year, month_length, day_number, IsDate}
use Rattle.refusals.specs.declared.Reason.{Reason}
use Rattle.calendar.specs.Moments.{IsMoment, Outcome, moment, refused, with_date, moved, has_room, instant_of, NotAfter}
use Rattle.calendar.specs.Moments.{minute_number, minutes, at_minute, minutes_step, month_number, months, in_month, months_step}
use Rattle.calendar.specs.Moments.{year_number, years, in_year, years_step}
use Rattle.calendar.specs.declared.moments.Moment.{Moment}
use Rattle.calendar.proofs.Rooms.{below_limit}
use Rattle.calendar.proofs.DateOrder.{same_date, earlier_month, same_month, in_months}
use Rattle.calendar.proofs.Places.{minute_below, minute_at, at_own_minute, month_below, in_own_month, in_year_date}

-- two moments of the calendar with one instant are one moment
pub one-instant : (t u : Moment) → IsMoment t → IsMoment u → instant_of t ≡ instant_of u → t ≡ u
one-instant t u v w e =
    let minute : minute_number t ≡ minute_number u = omega (arith, v.time, w.time) in
    let second : t.second ≡ u.second = omega (arith, v.time, w.time) in
    let millisecond : t.millisecond ≡ u.millisecond = omega arith in
    sym (at_own_minute t v) ∙ rw (minute, second, millisecond) (at_own_minute u w)

-- where a step may lead: back to no later moment, on to no earlier one
abbrev pub Ordered : Bool → Moment → Moment → Type 0
Ordered true t u = NotAfter u t
Ordered false t u = NotAfter t u

-- a step that leads somewhere has passed its test
taken : (c : Bool) (o : Outcome) (r : Reason) {u : Moment} → cond c o (refused r) ≡ moment u → (c ≡ true) × (o ≡ moment u)
taken true o r e = (refl, e)
taken false o r e = let z : ◌≡◌ {A = ℕ} 0 1 = cc in absurd (omega arith)

-- along a row of places of which the good ones are in order
module _ (place : ℕ → Moment) (Good : ℕ → Type 0) (ordered : (n m : ℕ) → n ≤ m → Good n → Good m → NotAfter (place n) (place m)) where
  row_ordered :
      (back : Bool) (k n : ℕ) {u : Moment} → Good n → Good (moved back k n) → moment (place (moved back k n)) ≡ moment u →
      Ordered back (place n) u
  row_ordered true k n {u} g h e = let same : place (n - k) ≡ u = cc in rw (← same) (ordered (n - k) n (omega arith) h g)
  row_ordered false k n {u} g h e = let same : place (n + k) ≡ u = cc in rw (← same) (ordered n (n + k) (omega arith) g h)

-- minutes
pub minutes_ordered : (back : Bool) (k : ℕ) (t u : Moment) → IsMoment t → minutes_step back k t ≡ moment u → Ordered back t u
unfolding minutes_step
minutes_ordered back k t u v e =
    let n = minute_number t in
    let h = minute_below t v in
    let w = taken (has_room back k n minutes) _ _ e in
    rw (at_own_minute t v)
    at (row_ordered (λ n. at_minute n t) (λ n. n < minutes) in_order back k n h (below_limit back k n minutes h w.0) w.1)
  where
    in_order : (n m : ℕ) → n ≤ m → n < minutes → m < minutes → NotAfter (at_minute n t) (at_minute m t)
    in_order n m h i j = rw (minute_at n t, minute_at m t) (omega arith)

-- one time of day on two dates
on_dates : (t : Moment) (y m d z k e : ℕ) → day_number y m d ≤ day_number z k e → NotAfter (with_date y m d t) (with_date z k e t)
on_dates t y m d z k e h = omega arith

-- months
pub months_ordered : (back : Bool) (k : ℕ) (t u : Moment) → IsMoment t → months_step back k t ≡ moment u → Ordered back t u
unfolding months_step
months_ordered back k t u v e =
    let n = month_number t in
    let h = month_below t v in
    let w = taken (has_room back k n months) _ _ e in
    rw (in_own_month t v)
    at (row_ordered (λ n. in_month n t) (λ n. n < months) in_order back k n h (below_limit back k n months h w.0) w.1)
  where
    in_order : (n m : ℕ) → n ≤ m → n < months → m < months → NotAfter (in_month n t) (in_month m t)
    in_order n m h i j =
        on_dates t _ _ _ _ _ _
        (in_months n m v v i j (⊎_elim (λ p. same_month p (omega arith)) earlier_month (eq-or-lt_of_le h)))

-- years: the same month and day
pub years_ordered : (back : Bool) (k : ℕ) (t u : Moment) → IsMoment t → years_step back k t ≡ moment u → Ordered back t u
unfolding years_step
years_ordered back k t u v e =
    let d = v.date in
    let n = year_number t in
    let own : n + 1 ≡ t.year = omega (arith, d) in
    let w = taken (has_room back k n years) (in_year (moved back k n) t) _ e in
    let x = taken (leb t.day (month_length (leap_year (moved back k n + 1)) t.month)) _ _ w.1 in
    rw own
    at (row_ordered (λ n. with_date (n + 1) t.month t.day t) (λ n. IsDate (n + 1) t.month t.day) in_order back k n
    (rw own d) (in_year_date t v (below_limit back k n years (omega (arith, d)) w.0) (leb-true _ _ x.0)) x.1)
  where
    in_order : (n m : ℕ) → n ≤ m → IsDate (n + 1) t.month t.day → IsDate (m + 1) t.month t.day →
        NotAfter (with_date (n + 1) t.month t.day t) (with_date (m + 1) t.month t.day t)
    in_order n m h a b = on_dates t _ _ _ _ _ _ (same_date a b (omega arith))
