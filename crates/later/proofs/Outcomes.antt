-- Two outcomes that are in order where both are moments.
use Prim.Native.Nat.{ℕ}
use native.Mathlib.Omega.{arith}
use mathlib.Core.Path.{◌≡◌, refl}
use mathlib.Core.Bool.{Bool, true, false, cond}
use Rattle.refusals.specs.declared.Reason.{Reason}
use Rattle.calendar.specs.Moments.{IsMoment, Outcome, moment, refused, and_then}
use Rattle.calendar.specs.declared.moments.Moment.{Moment}
use Rattle.answer.proofs.Leads.{Leads, leads, refuses}
use Rattle.later.proofs.InOrder.{InOrder}

-- "both answered with a moment"
pub record Kept (o p : Outcome) : Type 0 where
  pub kept : (t u : Moment) → o ≡ moment t → p ≡ moment u → InOrder t u

-- two moments
pub both : {t u : Moment} → InOrder t u → Kept (moment t) (moment u)
both {t} {u} a = record { kept = λ x y e f. let p : t ≡ x = cc in let q : u ≡ y = cc in rw (← p, ← q) a }

-- "refused runs make no claim"
pub no_first : {k : Reason} {p : Outcome} → Kept (refused k) p
no_first = record { kept = λ x y e f. let z : ◌≡◌ {A = ℕ} 0 1 = cc in absurd (omega arith) }

no_second : {k : Reason} {o : Outcome} → Kept o (refused k)
no_second = record { kept = λ x y e f. let z : ◌≡◌ {A = ℕ} 0 1 = cc in absurd (omega arith) }

-- by a test of each
pub tested : (b c : Bool) (k : Reason) (o p : Outcome) → (b ≡ true → c ≡ true → Kept o p) → Kept (cond b o (refused k)) (cond c p (refused k))
tested true true k o p f = f refl refl
tested true false k o p f = no_second
tested false c k o p f = no_first

-- a step from where both have led
pub then_kept :
    {o p : Outcome} (f g : Moment → Outcome) → Leads IsMoment o → Leads IsMoment p → Kept o p →
    ((t u : Moment) → IsMoment t → IsMoment u → InOrder t u → Kept (f t) (g u)) → Kept (and_then o f) (and_then p g)
then_kept f g (leads {t} v) (leads {t = u} w) h k = k t u v w (h.kept t u refl refl)
then_kept f g (leads v) (refuses e) h k = no_second
then_kept f g (refuses e) l h k = no_first
