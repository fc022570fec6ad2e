-- What each step answers, and two steps of minutes in a row.
use mathlib.Core.Path.{◌≡◌, refl}
use mathlib.Core.Bool.{Bool, true, false, cond}
use mathlib.Core.Logic.{◌⊎◌, inl, inr, ⊎_elim}
use Prim.Native.Nat.{ℕ, ◌+◌, ◌≤◌, ◌<◌}
use native.Mathlib.Omega.{arith}
use lib.Dec.{leb, ltb, lit<}
use borrow.Author.Tests.{leb-true, leb-false, ltb-true, ltb-false}
use Rattle.std.specs.Prelude.{Some, None}
use Rattle.refusals.specs.declared.Reason.{Reason}
use Rattle.refusals.specs.declared.Reason.TheVariants as refusal
use Rattle.calendar.specs.Gregorian.{leap_year, month_length, days}
use Rattle.calendar.specs.Moments.{IsMoment, Outcome, moment, refused, Valid, and_then, on_day, moved, has_room}
use Rattle.calendar.specs.Moments.{step_along, moved_within, minute_number, minutes, at_minute, minutes_step, month_number, months, in_month}
use Rattle.calendar.specs.Moments.{months_step, year_number, years, in_year, years_step}
use Rattle.calendar.specs.declared.moments.Moment.{Moment}
use Rattle.calendar.proofs.Rooms.{Past, no_room, not-past, below_limit, landed, left_row, moved_twice, room_twice, no_room_twice}
use Rattle.calendar.proofs.Months.{lost_day}
use Rattle.calendar.proofs.Places.{at_day_moment, minute_below, at_minute_moment, minute_at, month_below, in_month_moment}
use Rattle.calendar.proofs.Places.{in_year_date}
use Rattle.calendar.proofs.Outcomes.{moment_valid, refused_valid}

-- exactly what is due: a moment of the calendar where no refusal is, or a refusal that is
pub data Exact (Due : Reason → Type 0) : Outcome → Type 0 where
  reached : {u : Moment} → IsMoment u → ((n : Reason) → Due n → ⊥) → Exact Due (moment u)
  refuses : {n : Reason} → Due n → Exact Due (refused n)

-- so it is valid
exact_valid : {Due : Reason → Type 0} {o : Outcome} → Exact Due o → Valid o
exact_valid (reached v free) = moment_valid v
exact_valid (refuses due) = refused_valid _

-- and so is what code answers with it
pub told : {Due : Reason → Type 0} {r o : Outcome} → Exact Due o → r ≡ o → (r ≡ o) × Valid r
told a e = (e, rw e (exact_valid a))

-- by a test
either : (Due : Reason → Type 0) (b : Bool) (p q : Outcome) → (b ≡ true → Exact Due p) → (b ≡ false → Exact Due q) →
    Exact Due (cond b p q)
either Due true p q f g = f refl
either Due false p q f g = g refl

-- refusal k is due where C holds, and no other
abbrev pub Only : Reason → Type 0 → Reason → Type 0
Only k C n = (n ≡ k) × C

-- a day: 12 exactly where it is past the last
pub on_day_exact : (n : ℕ) (t : Moment) → IsMoment t → Exact (Only refusal.Outside (days ≤ n)) (on_day n t)
unfolding on_day
on_day_exact n t v =
    either _ (ltb n days) _ _
    (λ e. let h = ltb-true n days e in reached (at_day_moment n t h v) (λ _ due. omega arith)) (λ e. refuses (refl, ltb-false _ _ e))

-- a step along a row of moments of the calendar: 12 exactly where it goes past them
along_exact : (back : Bool) (k n limit : ℕ) (place : ℕ → Moment) → n < limit → ((m : ℕ) → m < limit → IsMoment (place m)) →
    Exact (Only refusal.Outside (Past back k n limit)) (step_along back k n limit (λ m. moment (place m)))
along_exact back k n limit place h f =
    either _ (has_room back k n limit) _ _
    (λ e. reached (f _ (below_limit back k n limit h e)) (λ _ due. not-past back k n limit e due.1))
    (λ e. refuses (refl, no_room back k n limit e))

-- minutes: 12 exactly where they go past the first or the last one
pub minutes_exact : (back : Bool) (k : ℕ) (t : Moment) → IsMoment t →
    Exact (Only refusal.Outside (Past back k (minute_number t) minutes)) (minutes_step back k t)
unfolding minutes_step
minutes_exact back k t v =
    along_exact back k (minute_number t) minutes (λ m. at_minute m t) (minute_below t v) (λ m h. at_minute_moment m t h v)

-- months: the same
pub months_exact : (back : Bool) (k : ℕ) (t : Moment) → IsMoment t →
    Exact (Only refusal.Outside (Past back k (month_number t) months)) (months_step back k t)
unfolding months_step
months_exact back k t v =
    along_exact back k (month_number t) months (λ m. in_month m t) (month_below t v) (λ m h. in_month_moment m t h v)

-- a 29 February that year y does not have
pub record LostDay (t : Moment) (y : ℕ) : Type 0 where
  pub month : t.month ≡ 2
  pub day : t.day ≡ 29
  pub common : leap_year y ≡ false

-- what a year step is refused for: 12 where the year is outside, else 13 where the day is lost
abbrev pub ForYear : Type 0 → Moment → ℕ → Reason → Type 0
ForYear C t y n = Only refusal.Outside C n ⊎ Only refusal.NoLeapDay ((C → ⊥) × LostDay t y) n

-- a lost day is past its month's end
lost_past : {t : Moment} {y : ℕ} → LostDay t y → month_length (leap_year y) t.month < t.day
unfolding month_length
lost_past l = rw (l.month, l.day, l.common) (lit< tt)

-- the same month and day in a year of the calendar
in_year_exact : (C : Type 0) (n : ℕ) (t : Moment) → IsMoment t → n < years → (C → ⊥) → Exact (ForYear C t (n + 1)) (in_year n t)
in_year_exact C n t v h not-out =
    either _ (leb t.day (month_length (leap_year (n + 1)) t.month)) _ _
    (λ e. let l = leb-true t.day (month_length (leap_year (n + 1)) t.month) e in
    reached (record { date = in_year_date t v h l; time = v.time })
    (λ _. ⊎_elim (λ due. not-out due.1) (λ due. omega (arith, lost_past due.1.1))))
    (λ e. refuses (inr (refl, (not-out, lost (lost_day _ _ _ _ (leb-false _ _ e) v.date.day_high)))))
  where
    lost : (t.month ≡ 2) × (t.day ≡ 29) × (leap_year (n + 1) ≡ false) → LostDay t (n + 1)
    lost l = record { month = l.0; day = l.1; common = l.2 }

-- years: 12 exactly where they go past 1 or 9999, else 13 exactly for 29 February into a common year
pub years_exact : (back : Bool) (k : ℕ) (t : Moment) → IsMoment t →
    Exact (ForYear (Past back k (year_number t) years) t (moved back k (year_number t) + 1)) (years_step back k t)
unfolding years_step
years_exact back k t v =
    either _ (has_room back k (year_number t) years) _ _
    (λ e. in_year_exact _ _ t v (below_limit back k _ _ (omega (arith, v.date)) e) (not-past back k _ _ e))
    (λ e. refuses (inl (refl, no_room back k _ _ e)))

-- what code answers, from the place that it got: what is there, or 12 where it got none
module _ {Due : Reason → Type 0} (back : Bool) (k n limit : ℕ) (at : ℕ → Outcome) (a : Exact Due (step_along back k n limit at)) where
  at_place : {r : ℕ} → moved_within back k n limit ≡ Some r → (at r ≡ step_along back k n limit at) × Valid (at r)
  at_place e = let w = landed back k n limit e in told a (rw (w.0, w.1))

  past_row : moved_within back k n limit ≡ None → (refused refusal.Outside ≡ step_along back k n limit at) × Valid (refused refusal.Outside)
  past_row e = told a (rw (left_row back k n limit e))

module _ (back : Bool) (k : ℕ) (t : Moment) (v : IsMoment t) where
  pub minutes_in_lem : (r : ℕ) → moved_within back k (minute_number t) minutes ≡ Some r →
      (moment (at_minute r t) ≡ minutes_step back k t) × Valid (moment (at_minute r t))
  unfolding minutes_step
  minutes_in_lem r = at_place back k (minute_number t) minutes (λ m. moment (at_minute m t)) (minutes_exact back k t v)

  pub minutes_out : moved_within back k (minute_number t) minutes ≡ None →
      (refused refusal.Outside ≡ minutes_step back k t) × Valid (refused refusal.Outside)
  unfolding minutes_step
  minutes_out = past_row back k (minute_number t) minutes (λ m. moment (at_minute m t)) (minutes_exact back k t v)

  pub months_in : (r : ℕ) → moved_within back k (month_number t) months ≡ Some r →
      (moment (in_month r t) ≡ months_step back k t) × Valid (moment (in_month r t))
  unfolding months_step
  months_in r = at_place back k (month_number t) months (λ m. moment (in_month m t)) (months_exact back k t v)

  pub months_out : moved_within back k (month_number t) months ≡ None →
      (refused refusal.Outside ≡ months_step back k t) × Valid (refused refusal.Outside)
  unfolding months_step
  months_out = past_row back k (month_number t) months (λ m. moment (in_month m t)) (months_exact back k t v)

  pub years_in : (r : ℕ) → moved_within back k (year_number t) years ≡ Some r → (in_year r t ≡ years_step back k t) × Valid (in_year r t)
  unfolding years_step
  years_in r = at_place back k (year_number t) years (λ m. in_year m t) (years_exact back k t v)

  pub years_out : moved_within back k (year_number t) years ≡ None → (refused refusal.Outside ≡ years_step back k t) × Valid (refused refusal.Outside)
  unfolding years_step
  years_out = past_row back k (year_number t) years (λ m. in_year m t) (years_exact back k t v)

-- a minutes and then b of one direction are a + b minutes, with the same refusal
pub minutes_twice : (back : Bool) (a b : ℕ) (t : Moment) → minutes_step back (a + b) t ≡ and_then (minutes_step back a t) (minutes_step back b)
unfolding minutes_step
minutes_twice back a b t = go (has_room back a n minutes) refl
  where
    n : ℕ
    n = minute_number t

    go : (c : Bool) → has_room back a n minutes ≡ c →
        minutes_step back (a + b) t ≡ and_then (cond c (moment (at_minute (moved back a n) t)) (refused refusal.Outside)) (minutes_step back b)
    go true e = rw (minute_at (moved back a n) t, room_twice back a b n minutes e, moved_twice back a b n)
    go false e = rw (no_room_twice back a b n minutes e)
