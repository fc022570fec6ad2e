-- What a phrase is made ready as: the steps that a plan holds, or what reading refuses.
use Rattle.std.specs.Prelude.{ℕ, ◌≡◌, refl, ◌≤◌, min, List, length, Result, Ok, Err}
use Rattle.std.proofs.Common.{ap, sym, ◌∙◌}
use native.Mathlib.Omega.{arith}
use Rattle.refusals.specs.Answers.{given, refused}
use Rattle.refusals.specs.declared.Refusal.{Refusal}
use Rattle.refusals.proofs.Holds.{Holds, of_given, of_refusal, Bounded}
use Rattle.steps.specs.Plans.{plan_of, steps_in}
use Rattle.steps.specs.declared.plan.Plan.{Plan}
use Rattle.steps.specs.declared.plan.Step.{Step}
use Rattle.steps.proofs.Planned.{steps_in_lem}
use Rattle.ready.specs.Ready.{ReadyPhrase, ready_answer}
use Rattle.ready.proofs.ReadyPhrases.{MadeReady}
use Rattle.fuzzydate.specs.Called.{ready_in, Part}
use Rattle.fuzzydate.proofs.Readings.{made_in}

-- the steps that a plan holds
pub record ListMade (k : ℕ) (s : List ℕ) (p : Plan) : Type 0 where
  pub list : List Step
  pub is : ready_in k s ≡ given list
  pub plan : steps_in p ≡ list
  pub count : p.n ≡ length list
  pub few : length list ≤ 24

-- a refusal with its part
pub record NoneMade (k : ℕ) (s : List ℕ) (r : Refusal) : Type 0 where
  pub is : ready_in k s ≡ refused r
  pub part : Part r

module _ (k : ℕ) (s : List ℕ) {answer : Result Plan Refusal} (promised : answer ≡ ready_answer (ready_in k s)) where
  pub list_made : {p : Plan} → answer ≡ Ok p → ListMade k s p
  unfolding plan_of
  list_made {p} e = go refl (made_in k s) (sym e ∙ promised)
    where
      go : {w : ReadyPhrase} → ready_in k s ≡ w → Holds MadeReady (Bounded 1 15 (min (length s) 256)) w → Ok p ≡ ready_answer w → ListMade k s p
      go same-made (of_given {x} made) e =
          let same : p ≡ plan_of x = cc in
          record {
            list = x;
            is = same-made;
            plan = ap steps_in same ∙ steps_in_lem x made.most;
            count = ap (λ (q : Plan). q.n) same;
            few = made.most;
          }
      go same-made (of_refusal b) e = cc

  pub none_made : {r : Refusal} → answer ≡ Err r → NoneMade k s r
  none_made {r} e = go refl (made_in k s) (sym e ∙ promised)
    where
      go : {w : ReadyPhrase} → ready_in k s ≡ w → Holds MadeReady (Bounded 1 15 (min (length s) 256)) w → Err r ≡ ready_answer w → NoneMade k s r
      go same-made (of_given made) e = cc
      go same-made (of_refusal {r = q} b) e =
          let same : q ≡ r = cc in
          record { is = same-made ∙ ap refused same; part = rw (← same) (omega (arith, b), omega (arith, b)) }
