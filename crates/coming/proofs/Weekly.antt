-- FREQ=WEEKLY: how many days before another hold.
use mathlib.Core.Path.{◌≡◌}
use mathlib.Core.Bool.{Bool, true, false, cond, ◌&&◌}
use mathlib.Core.Logic.{⊎_elim}
use lib.ListN.{length}
use Prim.Native.Nat.{ℕ, suc, ◌+◌, ◌-◌, ◌*◌, ◌/◌, ◌%◌, ◌≤◌}
use native.Mathlib.Omega.{arith}
use Rattle.digits.proofs.Order.{le-or_lt}
use Rattle.coming.specs.Counts.{count, count_weekly, rank}
use Rattle.repeats.proofs.Division.{divides_mul, up_is}
use Rattle.repeats.specs.Held.{between, one}
use Rattle.repeats.specs.Occurrences.{divides, holds, weekly}
use Rattle.coming.proofs.Division.{up_step}
use Rattle.coming.proofs.Lengths.{and-false, and-true, count_step, count_zero, length-by}

-- a step within a week, over plain numbers
within : (w : ℕ → Bool) (t : Bool) (a k : ℕ) → a + cond t (count w (suc k)) 0 ≡ a + cond t (count w k) 0 + one (w k && t)
within w true a k = rw (and-true (w k)) (omega (arith, count_step w k))
within w false a k = rw (and-false (w k)) (omega arith)

-- a step to the next week
across : (w : ℕ → Bool) (t t' : Bool) (u : ℕ) →
    count w 7 * (u + one t) + cond t' (count w 0) 0 ≡ count w 7 * u + cond t (count w 6) 0 + one (w 6 && t)
across w true true u = rw (and-true (w 6)) (omega (arith, count_step w 6, count_zero w))
across w true false u = rw (and-true (w 6)) (omega (arith, count_step w 6))
across w false true u = rw (and-false (w 6)) (omega (arith, count_zero w))
across w false false u = rw (and-false (w 6)) (omega arith)

-- the rank grows by one for each day that holds
pub rank_step : (w : ℕ → Bool) (i s n : ℕ) → 1 ≤ i → s ≤ n → rank w i s (suc n) ≡ rank w i s n + one (holds (weekly w) i s n)
unfolding rank holds
rank_step w i s n h g = ⊎_elim
    (λ p.
    let v : suc n / 7 - s / 7 ≡ suc (n / 7 - s / 7) = omega arith in
    let z : suc n % 7 ≡ 0 = omega arith in
    let e : n % 7 ≡ 6 = omega arith in
    rw (v, z, e, up_step i (n / 7 - s / 7) h) (across w (divides i (n / 7 - s / 7)) (divides i (suc (n / 7 - s / 7))) _))
    (λ p.
    let v : suc n / 7 ≡ n / 7 = omega arith in
    let e : suc n % 7 ≡ suc (n % 7) = omega arith in
    rw (v, e) (within w (divides i (n / 7 - s / 7)) _ (n % 7)))
    (le-or_lt 6 (n % 7))

-- so from the start's rank to another's there are as many as the days between that hold
rank_length : (w : ℕ → Bool) (i s b : ℕ) → 1 ≤ i → s ≤ b → rank w i s s + length (between (holds (weekly w) i s) s b) ≡ rank w i s b
rank_length w i s b h g =
    let e : s + (b - s) ≡ b = omega arith in
    rw e at (length-by (holds (weekly w) i s) (rank w i s) s (b - s) (λ n p q. rank_step w i s n h p))

-- the closed form is the number of days below b that hold
pub weekly_count : (w : ℕ → Bool) (i s b : ℕ) → 1 ≤ i → s ≤ b → length (between (holds (weekly w) i s) s b) ≡ count_weekly w i s b
unfolding count_weekly
weekly_count w i s b h g = omega (arith, rank_length w i s b h g)

-- the rank of the start is what its own week has before it
rank_start : (w : ℕ → Bool) (i s : ℕ) → 1 ≤ i → rank w i s s ≡ count w (s % 7)
unfolding rank
rank_start w i s h =
    let none : s / 7 - s / 7 ≡ i * 0 = omega arith in
    rw (none, divides_mul i 0, up_is i (i * 0) 0 (omega arith) (omega arith)) (omega arith)

-- as the code counts them
pub record Ranked (w : ℕ → Bool) (i s b : ℕ) : Type 0 where
  pub room : count w (s % 7) ≤ rank w i s b
  pub is : rank w i s b - count w (s % 7) ≡ count_weekly w i s b

pub ranked : (w : ℕ → Bool) (i s b : ℕ) → 1 ≤ i → s ≤ b → Ranked w i s b
unfolding count_weekly
ranked w i s b h g =
    let start = rank_start w i s h in
    record { room = omega (arith, rank_length w i s b h g); is = rw start }
