-- Of 16 turns of a monthly rule whose start has the day one has it too.
use mathlib.Core.Path.{◌≡◌, refl, ap, sym, ◌∙◌}
use mathlib.Core.Bool.{Bool, true, false, ◌||◌}
use mathlib.Core.Logic.{⊎_elim}
use lib.Dec.{eqb, leb}
use Prim.Native.Nat.{ℕ, suc, ◌+◌, ◌-◌, ◌*◌, ◌/◌, ◌%◌, ◌≤◌, ◌<◌}
use native.Mathlib.Omega.{arith}
use borrow.Author.Tests.{le-leb, leb-true, eq-eqb, ne_eqb}
use Rattle.calendar.specs.Gregorian.{leap_year, month_length, day_of, days}
use Rattle.digits.proofs.Order.{le-or_lt}
use Rattle.digits.proofs.Tabled.{all_below, each_below}
use Rattle.calendar.proofs.Months.{lost_day}
use Rattle.calendar.proofs.Dates.{is_date_lem}
use Rattle.repeats.specs.Firsts.{first_monthly, has_day, month_from, up}
use Rattle.repeats.specs.Held.{First}
use Rattle.repeats.specs.Occurrences.{holds, month_at, monthly}
use Rattle.repeats.proofs.Dates.{has_day_lem, length_at}
use Rattle.repeats.proofs.Division.{by_order}
use Rattle.repeats.proofs.Monthly.{monthly_first, turn_sought, turn_from}
use Rattle.repeats.proofs.Turns.{common, leap_again, years_on}
use Rattle.repeats.proofs.Weekly.{clash}

-- one of the 16 turns from t on has the day
pub record Turn (d i m t : ℕ) : Type 0 where
  pub n : ℕ
  pub low : t ≤ n
  pub high : n < t + 16
  pub has : has_day d (m + i * n) ≡ true

-- a month that is not February has a day 29
long_tested : (l : Bool) → all_below (λ k. eqb k 1 || leb 29 (month_length l (k + 1))) 12 ≡ true
unfolding month_length
long_tested true = refl
long_tested false = refl

not-february : (k : ℕ) → (k % 12 ≡ 1 → ⊥) → has_day 29 k ≡ true
unfolding has_day
not-february k o =
    rw (ne_eqb (k % 12) 1 o) at (each_below (λ k'. eqb k' 1 || leb 29 (month_length (leap_year (k / 12 + 1)) (k' + 1))) 12 (long_tested (leap_year (k / 12 + 1))) (k % 12) (omega arith))

-- a year that divides by 4 and not by 100 is a leap year
leap_is : (y : ℕ) → y % 4 ≡ 0 → (y % 100 ≡ 0 → ⊥) → leap_year y ≡ true
unfolding leap_year
leap_is y p q = rw (eq-eqb (y % 4) 0 p, ne_eqb (y % 100) 0 q)

-- a leap year divides by 4
leap_four : (y : ℕ) → leap_year y ≡ true → y % 4 ≡ 0
unfolding leap_year
leap_four y e = ⊎_elim
    (λ (p : 1 ≤ y % 4). absurd (clash (sym e ∙ rw (ne_eqb (y % 4) 0 (λ (z : y % 4 ≡ 0). omega arith), ne_eqb (y % 400) 0 (λ (z : y % 400 ≡ 0). omega arith)))))
    (λ (p : y % 4 < 1). omega arith) (le-or_lt 1 (y % 4))

-- a day that the month has in common years too comes again within 12 turns
by_twelve : (d i m t : ℕ) → d ≤ month_length false (m % 12 + 1) → Turn d i m t
by_twelve d i m t h =
    let e : m + i * (12 * ((t + 11) / 12)) ≡ m + 12 * (i * ((t + 11) / 12)) = omega arith in
    record {
      n = 12 * ((t + 11) / 12);
      low = omega arith;
      high = omega arith;
      has = rw (e, years_on d m (i * ((t + 11) / 12)))
          (le-leb d (month_length (leap_year (m / 12 + 1 + i * ((t + 11) / 12))) (m % 12 + 1))
          (omega (arith, common (leap_year (m / 12 + 1 + i * ((t + 11) / 12))) (m % 12 + 1))));
    }

-- 29 February, with an interval that leaves February
by_two : (i m t : ℕ) → (i % 12 ≡ 0 → ⊥) → Turn 29 i m t
by_two i m t o = by_order ((m + i * t) % 12) 1 here there (λ (p : 1 < (m + i * t) % 12). record {
  n = t;
  low = omega arith;
  high = omega arith;
  has = not-february _ (λ (z : (m + i * t) % 12 ≡ 1). omega arith);
})
  where
    here : (m + i * t) % 12 < 1 → Turn 29 i m t
    here p = record { n = t; low = omega arith; high = omega arith; has = not-february _ (λ (z : (m + i * t) % 12 ≡ 1). omega arith) }

    leaves : (x : ℕ) → x % 12 ≡ 1 → (x + i) % 12 ≡ 1 → ⊥
    leaves x p q = o (omega arith)

    there : (m + i * t) % 12 ≡ 1 → Turn 29 i m t
    there p = record {
      n = suc t;
      low = omega arith;
      high = omega arith;
      has = let e : m + i * suc t ≡ m + i * t + i = omega arith in rw e (not-february _ (leaves (m + i * t) p));
    }

-- February of a leap year has it
in_leap : (m k : ℕ) → m % 12 ≡ 1 → leap_year (m / 12 + 1 + k) ≡ true → has_day 29 (m + 12 * k) ≡ true
in_leap m k p e = rw (years_on 29 m k, p, e) (unfold month_length in refl)

-- j years are no whole centuries in four turns
no_century : (j k : ℕ) → 1 ≤ j % 25 → j ≡ 25 * k → ⊥
no_century j k h e = omega arith

quarter : (j a b : ℕ) → 100 * a + 4 * j ≡ 100 * b → j ≡ 25 * (b - a)
quarter j a b e = omega arith

centuries : (x j : ℕ) → x % 100 ≡ 0 → (x + 4 * j) % 100 ≡ 0 → 100 * (x / 100) + 4 * j ≡ 100 * ((x + 4 * j) / 100)
centuries x j p q = omega arith

-- j years a turn: one of 16 is a leap year
by_sixteen : (j m t : ℕ) → m % 12 ≡ 1 → leap_year (m / 12 + 1) ≡ true → Turn 29 (12 * j) m t
by_sixteen j m t p e = ⊎_elim other century (le-or_lt 1 (j % 25))
  where
    at : (n : ℕ) → leap_year (m / 12 + 1 + j * n) ≡ true → has_day 29 (m + 12 * j * n) ≡ true
    at n l = let z : m + 12 * j * n ≡ m + 12 * (j * n) = omega arith in rw z (in_leap m (j * n) p l)

    century : j % 25 < 1 → Turn 29 (12 * j) m t
    century q = record {
      n = 16 * ((t + 15) / 16);
      low = omega arith;
      high = omega arith;
      has = at (16 * ((t + 15) / 16)) (rw same (leap_again (m / 12 + 1) (j / 25 * ((t + 15) / 16)) ∙ e));
    }
      where
        times : (k u : ℕ) → j ≡ 25 * k → j * (16 * u) ≡ 400 * (k * u)
        times k u z = rw z (omega arith)

        same : m / 12 + 1 + j * (16 * ((t + 15) / 16)) ≡ m / 12 + 1 + 400 * (j / 25 * ((t + 15) / 16))
        same = ap (λ z. m / 12 + 1 + z) (times (j / 25) ((t + 15) / 16) (omega arith))

    four : (x a : ℕ) → x % 4 ≡ 0 → (x + 4 * a) % 4 ≡ 0
    four x a z = omega arith

    apart : (x : ℕ) → 1 ≤ j % 25 → x % 100 ≡ 0 → (x + 4 * j) % 100 ≡ 0 → ⊥
    apart x o z w = no_century j _ o (quarter j (x / 100) ((x + 4 * j) / 100) (centuries x j z w))

    other : 1 ≤ j % 25 → Turn 29 (12 * j) m t
    other o = ⊎_elim
        (λ (q : 1 ≤ (m / 12 + 1 + j * (4 * a)) % 100). record {
          n = 4 * a;
          low = omega arith;
          high = omega arith;
          has = at (4 * a) (leap_is _ by_four (λ (z : (m / 12 + 1 + j * (4 * a)) % 100 ≡ 0). omega arith));
        })
        (λ (q : (m / 12 + 1 + j * (4 * a)) % 100 < 1). record {
          n = 4 * a + 4;
          low = omega arith;
          high = omega arith;
          has = at (4 * a + 4) (rw next (leap_is _ (four (m / 12 + 1 + j * (4 * a)) j by_four) (apart (m / 12 + 1 + j * (4 * a)) o (omega arith))));
        })
        (le-or_lt 1 ((m / 12 + 1 + j * (4 * a)) % 100))
      where
        a : ℕ
        a = (t + 3) / 4

        next : m / 12 + 1 + j * (4 * a + 4) ≡ m / 12 + 1 + j * (4 * a) + 4 * j
        next = omega arith

        by_four : (m / 12 + 1 + j * (4 * a)) % 4 ≡ 0
        by_four = let z : j * (4 * a) ≡ 4 * (j * a) = omega arith in rw z (four (m / 12 + 1) (j * a) (leap_four (m / 12 + 1) e))

-- one of 16 turns has the day
pub some_turn : (d i m t : ℕ) → has_day d m ≡ true → Turn d i m t
unfolding has_day
some_turn d i m t e = ⊎_elim (by_twelve d i m t) (λ (p : month_length false (m % 12 + 1) < d). rare p (leap_year (m / 12 + 1)) refl)
    (le-or_lt d (month_length false (m % 12 + 1)))
  where
    rare : month_length false (m % 12 + 1) < d → (l : Bool) → leap_year (m / 12 + 1) ≡ l → Turn d i m t
    rare p false f = let h : d ≤ month_length false (m % 12 + 1) = leb-true _ _ (rw f at e) in absurd (omega arith)
    rare p true f =
        let h : d ≤ month_length true (m % 12 + 1) = leb-true _ _ (rw f at e) in
        let z = lost_day false true (m % 12 + 1) d p h in
        let y = z.0 in
        rw z.1 (⊎_elim (λ (q : 1 ≤ i % 12). by_two i m t (λ (w : i % 12 ≡ 0). omega arith))
        (λ (q : i % 12 < 1). let w : i ≡ 12 * (i / 12) = omega arith in rw w (by_sixteen (i / 12) m t (omega arith) f)) (le-or_lt 1 (i % 12)))

-- so the closed form stops at a month that has the day
pub monthly_has : (d i s b : ℕ) → s < days → day_of s ≡ d → has_day d (month_at s + i * turn_from d i s b) ≡ true
monthly_has d i s b h e = ⊎_elim
    (λ (p : up i (month_from d b - month_at s) + 16 ≤ turn_from d i s b). absurd (clash (sym one_has.has ∙
    (turn_sought d i s b).none one_has.n one_has.low (let x = one_has.high in omega arith))))
    (λ (p : turn_from d i s b < up i (month_from d b - month_at s) + 16). (turn_sought d i s b).found p)
    (le-or_lt (up i (month_from d b - month_at s) + 16) (turn_from d i s b))
  where
    start : has_day d (month_at s) ≡ true
    start = let x : day_of s ≤ length_at s = unfold length_at in (is_date_lem s h).day_high in has_day_lem d s h ∙ le-leb d (length_at s) (omega arith)

    one_has : Turn d i (month_at s) (up i (month_from d b - month_at s))
    one_has = some_turn d i (month_at s) (up i (month_from d b - month_at s)) start

-- the closed form is the least day from b on that holds, if its month is in the calendar
pub monthly_least : (d i s b : ℕ) → 1 ≤ i → day_of s ≡ d → s ≤ b → b < days → month_at s + i * turn_from d i s b < 119988 →
    First (holds (monthly d) i s) b (first_monthly d i s b)
monthly_least d i s b h e g t o =
    let x = (is_date_lem s (omega arith)).day_low in monthly_first d i s b (omega arith) h g t o (monthly_has d i s b (omega arith) e)
