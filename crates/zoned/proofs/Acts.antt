-- What a step does in a zone is what its kind asks for; and instants that are stood at are kept.
use Prim.Native.Nat.{ℕ, ◌+◌, ◌-◌, ◌*◌, ◌<◌}
use native.Mathlib.Omega.{arith}
use mathlib.Core.Path.{◌≡◌, refl, ap, subst}
use mathlib.Core.Bool.{true, and-eq-true_iff}
use mathlib.Core.List.{List}
use lib.Dec.{leb, ltb}
use borrow.Author.Tests.{leb-true}
use Rattle.std.specs.Prelude.{Result, Ok}
use Rattle.refusals.specs.declared.Reason.{Reason}
use Rattle.calendar.specs.Moments.{moment, seconds}
use Rattle.calendar.specs.declared.moments.Moment.{Moment}
use Rattle.calendar.proofs.Outcomes.{then_moment}
use Rattle.steps.specs.Running.{act_in, act_of, walk_of}
use Rattle.steps.specs.declared.plan.Start.TheVariants.{Now, Senseless, OnDate, InWeek, FromToday}
use Rattle.steps.specs.declared.plan.Move.TheVariants.{Minutes, Months, Years, BackTo, ForwardTo}
use Rattle.steps.specs.declared.plan.Step.{Step}
use Rattle.steps.specs.declared.plan.Step.TheVariants.{From, By, AtTime}
use Rattle.records.specs.Words.{step_from}
use Rattle.records.specs.Records.{words_at, steps_at}
use Rattle.tzif.specs.Zones.{Zone}
use Rattle.zones.specs.Civil.{answer_of, civil_of, last_in, civil_one, in_years}
use Rattle.zones.specs.Instants.{Good, Shown, Kept}
use Rattle.zones.specs.declared.instants.Instant.{Instant}
use Rattle.zoned.specs.InZone.{in_zone}
use Rattle.zoned.specs.Kinds.{kind_of, act_by}

-- one record is one step
pub one-step : (i : ℕ) (l : List ℕ) (n t : Moment) → walk_of (steps_at (i + 1 - i) l (16 * i)) n t ≡ act_of (step_from (words_at l (16 * i))) n t
one-step i l n t = let one : i + 1 - i ≡ 1 = omega arith in rw one (then_moment (act_of (step_from (words_at l (16 * i))) n t))

module _ (z : Zone) where
  pub by_kind : (s : Step) (n x : Instant) → act_in (in_zone z) s n x ≡ act_by z (kind_of s) s n x
  by_kind (From Now) n x = refl
  by_kind (From Senseless) n x = refl
  by_kind (From (OnDate d)) n x = refl
  by_kind (From (InWeek s d)) n x = refl
  by_kind (From (FromToday d)) n x = refl
  by_kind (By (Minutes back k)) n x = refl
  by_kind (By (Months back k)) n x = refl
  by_kind (By (Years back k)) n x = refl
  by_kind (By (BackTo d)) n x = refl
  by_kind (By (ForwardTo d)) n x = refl
  by_kind (AtTime time) n x = refl

  -- a second before the last transition with its civil time in years 1 to 9999 can be stood at
  pub years_good : (s : ℕ) → s < last_in z → in_years (civil_of z s) ≡ true → Good z s
  years_good s known e = record {
    known = known;
    low = leb-true civil_one (civil_of z s) ((and-eq-true_iff (leb civil_one (civil_of z s)) (ltb (civil_of z s) (civil_one + seconds))).0 e).0;
  }

  -- an instant that can be stood at
  pub here_kept : {x : Instant} → Shown z x → Kept z (moment x)
  here_kept {x} h = record { kept = λ y e. let same : x ≡ y = cc in subst (Shown z) same h }

  -- an instant that code takes out of what is kept
  pub at_shown : {r : Result Instant Reason} {x : Instant} → Kept z (answer_of r) → r ≡ Ok x → Shown z x
  at_shown k e = k.kept _ (ap answer_of e)
