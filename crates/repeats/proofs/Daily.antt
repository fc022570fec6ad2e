-- FREQ=DAILY: the closed form is what the definition gives.
use Prim.Native.Nat.{ℕ, ◌-◌, ◌*◌, ◌≤◌}
use native.Mathlib.Nat.{add-sub_cancel_left}
use native.Mathlib.Omega.{arith}
use Rattle.repeats.specs.Firsts.{first_daily, up}
use Rattle.repeats.specs.Held.{First}
use Rattle.repeats.specs.Occurrences.{daily, holds}
use Rattle.repeats.proofs.Division.{divides_mul, up_bounds, up_none}

-- the closed form is the least day from b on that holds
pub daily_first : (i s b : ℕ) → 1 ≤ i → s ≤ b → First (holds daily i s) b (first_daily i s b)
unfolding holds first_daily
daily_first i s b h g = record {
  reached = omega (arith, up_bounds i (b - s) h);
  holds = rw (add-sub_cancel_left s (i * up i (b - s))) (divides_mul i _);
  none = λ k p q. up_none i (b - s) (k - s) h (omega arith) (omega arith);
}
