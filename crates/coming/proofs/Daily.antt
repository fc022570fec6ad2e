-- FREQ=DAILY: how many days before another hold.
use mathlib.Core.Path.{◌≡◌, ap, sym, ◌∙◌}
use lib.ListN.{length}
use Prim.Native.Nat.{ℕ, suc, ◌+◌, ◌-◌, ◌≤◌, ◌<◌}
use native.Mathlib.Omega.{arith}
use Rattle.coming.specs.Counts.{count_daily}
use Rattle.repeats.specs.Firsts.{up}
use Rattle.repeats.specs.Held.{between, one}
use Rattle.repeats.specs.Occurrences.{daily, holds}
use Rattle.coming.proofs.Division.{up_step}
use Rattle.coming.proofs.Lengths.{length-by}
use Rattle.repeats.proofs.Division.{up_is}

-- the closed form is the number of days below b that hold
pub daily_count : (i s b : ℕ) → 1 ≤ i → s ≤ b → length (between (holds daily i s) s b) ≡ count_daily i s b
unfolding count_daily
daily_count i s b h g =
    let c = length-by (holds daily i s) (λ n. up i (n - s)) s (b - s) step in
    let z : up i (s - s) ≡ 0 = up_is i (s - s) 0 (omega arith) (omega arith) in
    let e : s + (b - s) ≡ b = omega arith in
    sym (ap (λ n. up i (n - s)) (sym e) ∙ sym c ∙ omega arith)
  where
    step : (n : ℕ) → s ≤ n → n < s + (b - s) → up i (suc n - s) ≡ up i (n - s) + one (holds daily i s n)
    step n p q = unfold holds in let e : suc n - s ≡ suc (n - s) = omega arith in rw e (up_step i (n - s) h)
