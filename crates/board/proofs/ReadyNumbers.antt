-- What a ready phrase says: its steps, or what reading refuses.
use Prim.Native.Nat.{ℕ, ◌≤◌, min}
use native.Mathlib.Omega.{arith}
use mathlib.Core.Path.{◌≡◌, refl, ap, sym, ◌∙◌}
use mathlib.Core.List.{List}
use lib.ListN.{length}
use Rattle.std.specs.Prelude.{Result, Ok, Err}
use Rattle.refusals.specs.declared.Refusal.{Refusal}
use Rattle.refusals.specs.Answers.{given, refused}
use Rattle.refusals.proofs.Holds.{Holds, of_given, of_refusal, Bounded}
use Rattle.lexer.specs.Keywords.{words_in}
use Rattle.lexer.specs.declared.reading.Reading.{Reading}
use Rattle.steps.specs.Plans.{plan_of, steps_in}
use Rattle.steps.specs.declared.plan.Plan.{Plan}
use Rattle.steps.specs.declared.plan.Step.{Step}
use Rattle.steps.proofs.Planned.{steps_in_lem}
use Rattle.ready.specs.Ready.{ReadyPhrase, ready_of, ready_answer}
use Rattle.ready.proofs.ReadyPhrases.{MadeReady, made_ready}

-- the steps that a plan holds
pub record ListMade (reading : Reading) (s : List ℕ) (p : Plan) : Type 0 where
  pub list : List Step
  pub is : ready_of reading (words_in reading) s ≡ given list
  pub plan : steps_in p ≡ list
  pub count : p.n ≡ length list
  pub few : length list ≤ 24

-- what is refused
pub record NoneMade (reading : Reading) (s : List ℕ) (r : Refusal) : Type 0 where
  pub is : ready_of reading (words_in reading) s ≡ refused r
  pub part : Bounded 1 7 (min (length s) 256) r

-- how many steps a plan has
plan_count : (ss : List Step) → (plan_of ss).n ≡ length ss
unfolding plan_of
plan_count ss = refl

module _ (reading : Reading) (s : List ℕ) {answer : Result Plan Refusal} (promised : answer ≡ ready_answer (ready_of reading (words_in reading) s)) where
  -- a plan
  pub list_made : {p : Plan} → answer ≡ Ok p → ListMade reading s p
  list_made {p} e = go refl (made_ready reading s) (sym e ∙ promised)
    where
      go : {w : ReadyPhrase} → ready_of reading (words_in reading) s ≡ w → Holds MadeReady (Bounded 1 7 (min (length s) 256)) w → Ok p ≡ ready_answer w → ListMade reading s p
      go is (of_given {x = ss} made) h =
          let same : p ≡ plan_of ss = cc in
          record {
            list = ss;
            is = is;
            plan = ap steps_in same ∙ steps_in_lem ss made.most;
            count = ap (λ (q : Plan). q.n) same ∙ plan_count ss;
            few = made.most;
          }
      go is (of_refusal b) h = let z : ◌≡◌ {A = ℕ} 0 1 = cc in absurd (omega arith)

  -- a refusal
  pub none_made : {r : Refusal} → answer ≡ Err r → NoneMade reading s r
  none_made {r} e = go refl (made_ready reading s) (sym e ∙ promised)
    where
      go : {w : ReadyPhrase} → ready_of reading (words_in reading) s ≡ w → Holds MadeReady (Bounded 1 7 (min (length s) 256)) w → Err r ≡ ready_answer w → NoneMade reading s r
      go is (of_given {x = ss} made) h = let z : ◌≡◌ {A = ℕ} 0 1 = cc in absurd (omega arith)
      go is (of_refusal {r = q} b) h = let same : q ≡ r = cc in rw (← same) (record { is = is; part = b })
