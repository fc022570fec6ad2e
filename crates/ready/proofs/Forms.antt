-- The form that running asks for, kept by every step that is neither a start nor a time step.
use Prim.Native.Nat.{ℕ, suc, ◌+◌}
use native.Mathlib.Omega.{arith}
use mathlib.Core.Path.{◌≡◌, refl, ap, sym, ◌∙◌}
use mathlib.Core.Bool.{Bool, true, false}
use mathlib.Core.List.{List, [], ◌∷◌}
use Rattle.dates.specs.declared.time.Time.{Time}
use Rattle.numbers.specs.Slices.{one_if}
use Rattle.steps.specs.Joining.{join_of, joined, add_step}
use Rattle.steps.specs.Running.{is_start, is_time_step, times_due, starts, times, is_formed}
use Rattle.steps.specs.declared.plan.Start.TheVariants.{Senseless}
use Rattle.steps.specs.declared.plan.Step.{Step}
use Rattle.steps.specs.declared.plan.Step.TheVariants.{From, AtTime}
use Rattle.steps.proofs.Joined.{Meeting, refusal, apart, lengths, meeting, starts_add, times_add}

-- a step that is neither a start nor a time step
pub record Plain (s : Step) : Type 0 where
  pub no_start : is_start s ≡ false
  pub no_time : is_time_step s ≡ false

-- the steps of a date expression before its time of day: a dated start, and no time step behind it
pub record Dated (x : Step) (ss : List Step) : Type 0 where
  pub start : is_start x ≡ true
  pub due : times_due x ≡ 1
  pub no_starts : starts ss ≡ 0
  pub no_times : times ss ≡ 0

-- or a refusal alone
pub data Open : List Step → Type 0 where
  senseless : Open (From Senseless ∷ [])
  dated : {x : Step} {ss : List Step} → Dated x ss → Open (x ∷ ss)

-- what cannot be
never : {A : Type 0} → ◌≡◌ {A = ℕ} 0 1 → A
never e = absurd (omega arith)

-- a dated start stays, whatever comes behind it
behind_start : {x s : Step} → Meeting x s → times_due x ≡ 1 → joined (join_of x s) x s ≡ x ∷ s ∷ []
behind_start (refusal e j) due = never (sym (ap times_due e) ∙ due)
behind_start (apart j) due = rw j
behind_start (lengths back m k e f j) due = never (sym (ap times_due e) ∙ due)

dated_add : (x : Step) (ss : List Step) (s : Step) → Plain s → Dated x ss → Open (add_step (x ∷ ss) s)
dated_add x [] s p d =
    rw (behind_start (meeting x s) d.due)
    (dated {x = x} {ss = s ∷ []} (record { start = d.start; due = d.due; no_starts = rw p.no_start; no_times = rw p.no_time }))
dated_add x (y ∷ ys) s p d =
    dated {x = x} {ss = add_step (y ∷ ys) s} (record {
      start = d.start;
      due = d.due;
      no_starts = starts_add (y ∷ ys) s p.no_start ∙ d.no_starts;
      no_times = times_add (y ∷ ys) s p.no_time ∙ d.no_times;
    })

-- such steps with another one stay so
pub open_add : {ss : List Step} → Open ss → (s : Step) → Plain s → Open (add_step ss s)
open_add senseless s p = senseless
open_add (dated {x} {ss} d) s p = dated_add x ss s p d

-- a time of day is one time step more
joined_time : {x s : Step} → Meeting x s → is_start x ≡ false → is_time_step s ≡ true → times (joined (join_of x s) x s) ≡ suc (times (x ∷ []))
joined_time (refusal e j) plain is = never (sym (ap (λ (b : Bool). one_if b) plain) ∙ ap (λ (x : Step). one_if (is_start x)) e)
joined_time (apart j) plain is = rw (j, is) (omega arith)
joined_time (lengths back m k e f j) plain is = never (sym (ap (λ (s : Step). one_if (is_time_step s)) f) ∙ ap one_if is)

no_start : (b : Bool) (k : ℕ) → one_if b + k ≡ 0 → b ≡ false
no_start true k e = never (omega arith)
no_start false k e = refl

timed : (ss : List Step) (t : Time) → starts ss ≡ 0 → times (add_step ss (AtTime t)) ≡ suc (times ss)
timed [] t none = refl
timed (x ∷ []) t none = joined_time (meeting x (AtTime t)) (no_start (is_start x) 0 none) refl
timed (x ∷ y ∷ ys) t none = omega (arith, timed (y ∷ ys) t (omega arith))

dated_time : (x : Step) (ss : List Step) (t : Time) → Dated x ss → is_formed (add_step (x ∷ ss) (AtTime t)) ≡ true
dated_time x [] t d = rw (behind_start (meeting x (AtTime t)) d.due, d.start, d.due)
dated_time x (y ∷ ys) t d =
    rw (d.start, starts_add (y ∷ ys) (AtTime t) refl, d.no_starts, timed (y ∷ ys) t d.no_starts, d.no_times, d.due)

-- they have the form that is asked for once their time of day is there
pub open_time : {ss : List Step} → Open ss → (t : Time) → is_formed (add_step ss (AtTime t)) ≡ true
open_time senseless t = refl
open_time (dated {x} {ss} d) t = dated_time x ss t d

joined_formed : {x s : Step} → Meeting x s → Plain s → is_formed (x ∷ []) ≡ true → is_formed (joined (join_of x s) x s) ≡ true
joined_formed (refusal e j) p h = rw j h
joined_formed (apart j) p h = rw (j, p.no_start, p.no_time) h
joined_formed (lengths back m k e f j) p h = never (ap (λ (b : Bool). one_if b) (sym (ap (λ (x : Step). is_formed (x ∷ [])) e) ∙ h))

-- and keep it
pub formed_add : (ss : List Step) (s : Step) → Plain s → is_formed ss ≡ true → is_formed (add_step ss s) ≡ true
formed_add [] s p h = never (ap (λ (b : Bool). one_if b) h)
formed_add (x ∷ []) s p h = joined_formed (meeting x s) p h
formed_add (x ∷ y ∷ ys) s p h = rw (starts_add (y ∷ ys) s p.no_start, times_add (y ∷ ys) s p.no_time) h
