-- The closed form of every rule, and the list of its occurrences.
use mathlib.Core.Path.{◌≡◌, refl, sym, ◌∙◌}
use mathlib.Core.Bool.{Bool, true, false, ◌&&◌}
use mathlib.Core.Logic.{⊎_elim}
use mathlib.Core.List.{◌∷◌, []}
use lib.ListN.{take}
use lib.Dec.{eqb}
use Prim.Native.Nat.{ℕ, suc, ◌+◌, ◌-◌, ◌*◌, ◌/◌, ◌%◌, ◌≤◌, ◌<◌}
use native.Mathlib.Omega.{arith}
use borrow.Author.Tests.{eqb-true}
use Rattle.calendar.specs.Gregorian.{day_number, day_of, days}
use Rattle.digits.proofs.Order.{le-or_lt}
use Rattle.calendar.proofs.Leap.{year_step}
use Rattle.calendar.proofs.Dates.{year_mono, all_days}
use Rattle.repeats.specs.Firsts.{day_in, first_from, first_monthly}
use Rattle.repeats.specs.Held.{First, between}
use Rattle.repeats.specs.Occurrences.{Repeat, daily, divides, holds, month_at, monthly, weekly}
use Rattle.repeats.proofs.Daily.{daily_first}
use Rattle.repeats.proofs.Division.{divides_mul}
use Rattle.repeats.proofs.Held.{Each, FirstBelow, Held, In, Increasing, first_head, held_complete, held_cons, held_increasing, held_none, held_sound, take-each, take-increasing}
use Rattle.repeats.proofs.Monthly.{monthly_end, turn_from}
use Rattle.repeats.proofs.Sixteen.{monthly_least}
use Rattle.repeats.proofs.Weekly.{weekly_first}

-- a number is no turn away from itself
own_turn : (i n : ℕ) → divides i (n - n) ≡ true
own_turn i n = let e : n - n ≡ i * 0 = omega arith in rw e (divides_mul i 0)

and-true : (b : Bool) → (b && true) ≡ b
and-true true = refl
and-true false = refl

-- whether a start matches: always, by its weekday, or by its day of the month
pub daily_own : (i s : ℕ) → holds daily i s s ≡ true
unfolding holds
daily_own i s = own_turn i s

pub weekly_own : (w : ℕ → Bool) (i s : ℕ) → holds (weekly w) i s s ≡ w (s % 7)
unfolding holds
weekly_own w i s = rw (own_turn i (s / 7)) (and-true (w (s % 7)))

pub monthly_own : (d i s : ℕ) → holds (monthly d) i s s ≡ eqb (day_of s) d
unfolding holds
monthly_own d i s = rw (own_turn i (month_at s)) (and-true (eqb (day_of s) d))

-- a start that matches is a day of the set
pub weekly_start : (w : ℕ → Bool) (i s : ℕ) → holds (weekly w) i s s ≡ true → w (s % 7) ≡ true
weekly_start w i s e = sym (weekly_own w i s) ∙ e

-- or the day of the month
pub monthly_start : (d i s : ℕ) → holds (monthly d) i s s ≡ true → day_of s ≡ d
monthly_start d i s e = eqb-true _ _ (sym (monthly_own d i s) ∙ e)

-- a month past the calendar has no day in it
pub past : (d k : ℕ) → 119988 ≤ k → days ≤ day_in d k
unfolding day_in day_number
past d k h =
    let e : k / 12 + 1 - 1 ≡ k / 12 = omega arith in
    let l : 9998 < k / 12 = omega arith in
    rw e (omega (arith, year_step 9998, year_mono 9998 (k / 12) l, all_days))

-- a least number is one below any limit
below_any : (P : ℕ → Bool) (b n c : ℕ) → First P b n → FirstBelow P b n c
below_any P b n c f = record { reached = f.reached; holds = λ p. f.holds; none_before = λ k p q r. f.none k p q }

-- the closed form is the least day from b on that holds, or none holds below the calendar's end
pub found : (r : Repeat) (i s b c : ℕ) → 1 ≤ i → holds r i s s ≡ true → s ≤ b → b < days → c ≤ days →
    FirstBelow (holds r i s) b (first_from r i s b) c
unfolding first_from
found daily i s b c h e g t z = below_any _ _ _ c (daily_first i s b h g)
found (weekly w) i s b c h e g t z = below_any _ _ _ c (weekly_first w i s b (s % 7) h g (omega arith) (weekly_start w i s e))
found (monthly d) i s b c h e g t z = ⊎_elim
    (λ (p : 119988 ≤ month_at s + i * turn_from d i s b). let y = out p in record {
      reached = omega arith;
      holds = λ (q : first_monthly d i s b < c). absurd (omega arith);
      none_before = λ k x u v. monthly_end d i s b h g p k x (omega arith);
    })
    (λ (p : month_at s + i * turn_from d i s b < 119988). below_any _ _ _ c (monthly_least d i s b h (monthly_start d i s e) g t p))
    (le-or_lt 119988 (month_at s + i * turn_from d i s b))
  where
    out : 119988 ≤ month_at s + i * turn_from d i s b → days ≤ first_monthly d i s b
    out p = unfold first_monthly turn_from in past d (month_at s + i * turn_from d i s b) p

-- the start is the first of all
pub starts : (r : Repeat) (i s limit c : ℕ) → holds r i s s ≡ true → s < limit →
    take (suc c) (between (holds r i s) s limit) ≡ s ∷ take c (between (holds r i s) (suc s) limit)
starts r i s limit c e h =
    let z : limit - s ≡ suc (limit - suc s) = omega arith in rw (z, held_cons (holds r i s) s (limit - suc s) e)

-- E11: what is left of the list from b on is the closed form's day and what is left from the day after it on
pub listed : (r : Repeat) (i s b limit : ℕ) → 1 ≤ i → holds r i s s ≡ true → s ≤ b → b < days → limit ≤ days → first_from r i s b < limit →
    between (holds r i s) b limit ≡ first_from r i s b ∷ between (holds r i s) (suc (first_from r i s b)) limit
listed r i s b limit h e g t z l =
    let f = found r i s b limit h e g t z in
    first_head (holds r i s) b (first_from r i s b) limit
    (record { reached = f.reached; holds = f.holds l; none = λ k x y. f.none_before k x y (omega arith) }) l

-- or nothing
pub listed_all : (r : Repeat) (i s b limit : ℕ) → 1 ≤ i → holds r i s s ≡ true → s ≤ b → b < days → limit ≤ days → limit ≤ first_from r i s b →
    between (holds r i s) b limit ≡ []
listed_all r i s b limit h e g t z l =
    let f = found r i s b limit h e g t z in
    held_none (holds r i s) b (limit - b) (λ k x y. f.none_before k x (omega arith) (omega arith))

-- the occurrences are strictly increasing
pub increasing : (r : Repeat) (i s limit c : ℕ) → Increasing s (take c (between (holds r i s) s limit))
increasing r i s limit c = take-increasing c s (between (holds r i s) s limit) (held_increasing (holds r i s) s (limit - s))

-- the rule holds at each of them
pub sound : (r : Repeat) (i s limit c : ℕ) → Each (Held (holds r i s) s (limit - s)) (take c (between (holds r i s) s limit))
sound r i s limit c = take-each _ c _ (held_sound (holds r i s) s (limit - s))

-- and without COUNT each day at which it holds is one
pub complete : (r : Repeat) (i s limit n : ℕ) → Held (holds r i s) s (limit - s) n → In n (between (holds r i s) s limit)
complete r i s limit n h = held_complete (holds r i s) s (limit - s) n h
