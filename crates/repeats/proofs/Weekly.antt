-- FREQ=WEEKLY: the closed form is what the definition gives.
use mathlib.Core.Path.{◌≡◌, refl, ap, sym, ◌∙◌}
use mathlib.Core.Bool.{Bool, true, false, cond, ◌&&◌}
use mathlib.Core.Logic.{⊎_elim}
use lib.Dec.{ltb}
use Prim.Native.Nat.{ℕ, suc, ◌+◌, ◌-◌, ◌*◌, ◌/◌, ◌%◌, ◌≤◌, ◌<◌}
use native.Mathlib.Omega.{arith}
use borrow.Author.Tests.{ltb-true, ltb-false}
use Rattle.digits.proofs.Order.{le-or_lt}
use Rattle.repeats.specs.Firsts.{first_weekly, up}
use Rattle.repeats.specs.Held.{First, one, seek}
use Rattle.repeats.specs.Occurrences.{divides, holds, weekly}
use Rattle.repeats.proofs.Division.{divides_mul, up_bounds, up_none}
use Rattle.repeats.proofs.Held.{Sought, sought}

-- no test both holds and does not
pub clash : true ≡ false → ⊥
clash e = let z : one true ≡ one false = ap one e in omega arith

-- a week that does not count, or a day that is not of the set
pub and_left : (a b : Bool) → a ≡ false → (a && b) ≡ false
and_left true b e = absurd (clash e)
and_left false b e = refl

pub and_right : (a b : Bool) → b ≡ false → (a && b) ≡ false
and_right true b e = e
and_right false b e = refl

pub and_both : (a b : Bool) → a ≡ true → b ≡ true → (a && b) ≡ true
and_both a b p q = rw (p, q)

-- in b's own week
here_first : (w : ℕ → Bool) (i s b n : ℕ) → s ≤ b → divides i (b / 7 - s / 7) ≡ true → Sought w (b % 7) (7 - b % 7) n → n < 7 →
    First (holds (weekly w) i s) b (7 * (b / 7) + n)
unfolding holds
here_first w i s b n g e f l =
    let low = f.low in
    let v : (7 * (b / 7) + n) / 7 ≡ b / 7 = omega arith in
    let r : (7 * (b / 7) + n) % 7 ≡ n = omega arith in
    record {
      reached = omega arith;
      holds = rw (v, r) (and_both _ _ (f.found (omega arith)) e);
      none = λ k p q. and_left _ _ (f.none (k % 7) (omega arith) (omega arith));
    }

-- in a later one
later_first : (w : ℕ → Bool) (i s b n : ℕ) → 1 ≤ i → s ≤ b → ((k : ℕ) → b ≤ k → k / 7 ≡ b / 7 → holds (weekly w) i s k ≡ false) →
    Sought w 0 7 n → n < 7 → First (holds (weekly w) i s) b (7 * (s / 7 + i * up i (suc (b / 7 - s / 7))) + n)
unfolding holds
later_first w i s b n h g f t l =
    let x = suc (b / 7 - s / 7) in
    let u = up_bounds i x h in
    let v : (7 * (s / 7 + i * up i x) + n) / 7 - s / 7 ≡ i * up i x = omega arith in
    let r : (7 * (s / 7 + i * up i x) + n) % 7 ≡ n = omega arith in
    record {
      reached = let a = u.low in omega arith;
      holds = rw (v, r) (and_both _ _ (t.found (omega arith)) (divides_mul i _));
      none = λ k p q. ⊎_elim (λ (z : k / 7 ≤ b / 7). f k p (omega arith))
          (λ (z : b / 7 < k / 7). ⊎_elim (λ (y : i * up i x ≤ k / 7 - s / 7). and_left _ _ (t.none (k % 7) (omega arith) (omega arith)))
          (λ (y : k / 7 - s / 7 < i * up i x). and_right (w (k % 7)) _ (up_none i x (k / 7 - s / 7) h (omega arith) y))
          (le-or_lt (i * up i x) (k / 7 - s / 7)))
          (le-or_lt (k / 7) (b / 7));
    }

-- the closed form is the least day from b on that holds; t is a day of the set
pub weekly_first : (w : ℕ → Bool) (i s b t : ℕ) → 1 ≤ i → s ≤ b → t < 7 → w t ≡ true → First (holds (weekly w) i s) b (first_weekly w i s b)
unfolding first_weekly
weekly_first w i s b t h g l e = go (divides i (b / 7 - s / 7)) refl (ltb (seek w (b % 7) (7 - b % 7)) 7) refl
  where
    any : seek w 0 7 < 7
    any = ⊎_elim (λ (p : 7 ≤ seek w 0 7). absurd (clash (sym e ∙ (sought w 0 7).none t (omega arith) (omega arith)))) (λ p. p) (le-or_lt 7 (seek w 0 7))

    go : (c : Bool) → divides i (b / 7 - s / 7) ≡ c → (z : Bool) → ltb (seek w (b % 7) (7 - b % 7)) 7 ≡ z →
        First (holds (weekly w) i s) b
        (cond (c && z) (7 * (b / 7) + seek w (b % 7) (7 - b % 7)) (7 * (s / 7 + i * up i (suc (b / 7 - s / 7))) + seek w 0 7))
    go true p true q = here_first w i s b _ g p (sought w (b % 7) (7 - b % 7)) (ltb-true _ _ q)
    go true p false q = later_first w i s b _ h g
        (λ k r y. unfold holds in and_left _ _ ((sought w (b % 7) (7 - b % 7)).none (k % 7) (omega arith) (omega (arith, ltb-false (seek w (b % 7) (7 - b % 7)) 7 q))))
        (sought w 0 7) any
    go false p z q = later_first w i s b _ h g (λ k r y. unfold holds in and_right (w (k % 7)) _ (rw y p)) (sought w 0 7) any
