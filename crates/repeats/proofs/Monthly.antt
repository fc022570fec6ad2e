-- FREQ=MONTHLY: the closed form is what the definition gives, where its turn has the day.
use mathlib.Core.Path.{◌≡◌, refl, sym, ◌∙◌}
use mathlib.Core.Bool.{Bool, true, false, ◌&&◌}
use mathlib.Core.Logic.{⊎_elim}
use lib.Dec.{eqb, ltb}
use Prim.Native.Nat.{ℕ, suc, ◌+◌, ◌-◌, ◌*◌, ◌/◌, ◌≤◌, ◌<◌}
use native.Mathlib.Nat.{eq-or-lt_of_le, mul-le-mul_left}
use native.Mathlib.Omega.{arith}
use borrow.Author.Tests.{lt-ltb, le-ltb, le-leb, eq-eqb, ne_eqb, eqb-true}
use Rattle.calendar.specs.Gregorian.{day_of, days}
use Rattle.digits.proofs.Order.{le-or_lt}
use Rattle.calendar.proofs.Dates.{is_date_lem}
use Rattle.repeats.specs.Firsts.{day_in, first_monthly, has_day, month_from, up}
use Rattle.repeats.specs.Held.{First, seek}
use Rattle.repeats.specs.Occurrences.{divides, holds, month_at, monthly}
use Rattle.repeats.proofs.Dates.{DayIn, day_in_lem, earlier, has_day_lem, length_at}
use Rattle.repeats.proofs.Division.{divided, divides_mul, up_bounds}
use Rattle.repeats.proofs.Held.{Sought, one-most, sought}
use Rattle.repeats.proofs.Weekly.{and_both, and_left, clash}

-- a later day has no earlier month
pub month_order : (s n : ℕ) → n < days → s ≤ n → month_at s ≤ month_at n
month_order s n h l = ⊎_elim (λ (e : s ≡ n). rw e (omega arith))
    (λ (p : s < n). ⊎_elim (λ (q : month_at s < month_at n). omega arith) (λ q. let e = q.0 in omega arith) (earlier s n h p)) (eq-or-lt_of_le l)

-- rounding up stays at or below what suffices
up_least : (i n q : ℕ) → 1 ≤ i → n ≤ i * q → up i n ≤ q
up_least i n q h l = ⊎_elim (λ p. p)
    (λ (p : suc q ≤ up i n). let a = mul-le-mul_left i p in let b = (up_bounds i n h).high in absurd (omega arith)) (le-or_lt (up i n) q)

-- a day d from b on falls in a month from `month_from` on
from_order : (d b k : ℕ) → k < days → b ≤ k → day_of k ≡ d → month_from d b ≤ month_at k
unfolding month_from
from_order d b k h l e = ⊎_elim
    (λ (p : b ≡ k). rw (p, le-ltb d (day_of k) (omega arith)) (omega arith))
    (λ (p : b < k). ⊎_elim
    (λ (q : month_at b < month_at k). omega (arith, one-most (ltb d (day_of b))))
    (λ (q : (month_at b ≡ month_at k) × (day_of b < day_of k)). let x = q.0 in let y = q.1 in rw (le-ltb d (day_of b) (omega arith)) (omega arith))
    (earlier b k h p))
    (eq-or-lt_of_le l)

-- which is none before the start's
pub from_start : (d s b : ℕ) → b < days → s ≤ b → month_at s ≤ month_from d b
unfolding month_from
from_start d s b h l = omega (arith, month_order s b h l)

-- and one before b in an earlier month
before_order : (d b k : ℕ) → b < days → k < b → day_of k ≡ d → month_at k < month_from d b
unfolding month_from
before_order d b k h l e = ⊎_elim
    (λ (q : month_at k < month_at b). omega arith)
    (λ (q : (month_at k ≡ month_at b) × (day_of k < day_of b)). let x = q.0 in let y = q.1 in rw (lt-ltb d (day_of b) (omega arith)) (omega arith))
    (earlier k b h l)

-- the turn at which the closed form stops
unfoldable pub turn_from : ℕ → ℕ → ℕ → ℕ → ℕ
turn_from d i s b = seek (λ t. has_day d (month_at s + i * t)) (up i (month_from d b - month_at s)) 16

-- and the day that it gives
pub first_monthly_is : (d i s b : ℕ) → first_monthly d i s b ≡ day_in d (month_at s + i * turn_from d i s b)
unfolding first_monthly turn_from
first_monthly_is d i s b = refl

pub turn_sought : (d i s b : ℕ) → Sought (λ t. has_day d (month_at s + i * t)) (up i (month_from d b - month_at s)) 16 (turn_from d i s b)
unfolding turn_from
turn_sought d i s b = sought _ _ 16

-- nothing holds from b on in a month before that turn's
pub monthly_none : (d i s b k : ℕ) → 1 ≤ i → s ≤ b → b ≤ k → k < days → month_at k < month_at s + i * turn_from d i s b →
    holds (monthly d) i s k ≡ false
unfolding holds
monthly_none d i s b k h g l t o = go (eqb (day_of k) d) refl (divides i (month_at k - month_at s)) refl
  where
    go : (x : Bool) → eqb (day_of k) d ≡ x → (y : Bool) → divides i (month_at k - month_at s) ≡ y → (x && y) ≡ false
    go false a y b' = refl
    go true a false b' = refl
    go true a true b' =
        let e = eqb-true (day_of k) d a in
        let f = divided i (month_at k - month_at s) b' in
        let m = month_order s k t (omega arith) in
        let c = from_order d b k t l e in
        let z = (month_at k - month_at s) / i in
        let w : month_at s + i * ((month_at k - month_at s) / i) ≡ month_at k = omega arith in
        let low = up_least i (month_from d b - month_at s) ((month_at k - month_at s) / i) h (omega arith) in
        let high : (month_at k - month_at s) / i < turn_from d i s b = ⊎_elim
        (λ (p : turn_from d i s b ≤ (month_at k - month_at s) / i). let y = mul-le-mul_left i p in absurd (omega arith)) (λ p. p)
        (le-or_lt (turn_from d i s b) ((month_at k - month_at s) / i)) in
        let no : has_day d (month_at k) ≡ false = rw w at ((turn_sought d i s b).none ((month_at k - month_at s) / i) low high) in
        let high' : day_of k ≤ length_at k = unfold length_at in (is_date_lem k t).day_high in
        let yes = has_day_lem d k t ∙ le-leb d (length_at k) (omega arith) in
        absurd (clash (sym yes ∙ no))

-- day d of a month that counts holds
monthly_at : (d i s n x : ℕ) → day_of n ≡ d → month_at n - month_at s ≡ i * x → holds (monthly d) i s n ≡ true
unfolding holds
monthly_at d i s n x e f = rw f (and_both _ _ (eq-eqb _ _ e) (divides_mul i x))

-- and no other day does
monthly_other : (d i s n : ℕ) → (day_of n ≡ d → ⊥) → holds (monthly d) i s n ≡ false
unfolding holds
monthly_other d i s n o = and_left _ _ (ne_eqb _ _ o)

-- day d of the month of that turn
monthly_found : (d i s b n : ℕ) → 1 ≤ i → s ≤ b → b < days → DayIn d (month_at s + i * turn_from d i s b) n → First (holds (monthly d) i s) b n
monthly_found d i s b n h g t v =
    let c = v.calendar in
    let m = v.month in
    let f = v.day in
    let u = (up_bounds i (month_from d b - month_at s) h).low in
    let w = mul-le-mul_left i (turn_sought d i s b).low in
    record {
      reached = ⊎_elim (λ p. p) (λ (p : n < b). let z = before_order d b n t p f in absurd (omega arith)) (le-or_lt b n);
      holds = monthly_at d i s n (turn_from d i s b) f (omega arith);
      none = λ k p q. ⊎_elim
          (λ (z : month_at k < month_at n). monthly_none d i s b k h g p (omega arith) (omega arith))
          (λ (z : (month_at k ≡ month_at n) × (day_of k < day_of n)). let y = z.1 in monthly_other d i s k (λ (x : day_of k ≡ d). omega arith))
          (earlier k n c q);
    }

-- the closed form is the least day from b on that holds, where the turn's month is in the calendar and has the day
pub monthly_first : (d i s b : ℕ) → 1 ≤ d → 1 ≤ i → s ≤ b → b < days → month_at s + i * turn_from d i s b < 119988 →
    has_day d (month_at s + i * turn_from d i s b) ≡ true → First (holds (monthly d) i s) b (first_monthly d i s b)
unfolding first_monthly turn_from
monthly_first d i s b l h g t o e = monthly_found d i s b _ h g t (day_in_lem d (month_at s + i * turn_from d i s b) l o e)

-- the months of the calendar
months_below_lem : (n : ℕ) → n < days → month_at n < 119988
unfolding month_at
months_below_lem n h =
    let v = is_date_lem n h in
    let a = v.year_high in
    let b = v.month_high in
    omega arith

-- where it is not in the calendar, no day from b on holds
pub monthly_end : (d i s b : ℕ) → 1 ≤ i → s ≤ b → 119988 ≤ month_at s + i * turn_from d i s b →
    (k : ℕ) → b ≤ k → k < days → holds (monthly d) i s k ≡ false
monthly_end d i s b h g o k l t = let m = months_below_lem k t in monthly_none d i s b k h g l t (omega arith)
