-- A phrase made ready by what the code's `read` gives.
use Prim.Native.Nat.{ℕ, ◌≤◌}
use mathlib.Core.Path.{◌≡◌, refl}
use mathlib.Core.List.{List}
use Rattle.std.specs.Prelude.{Result, Ok, Err, IfOk}
use Rattle.refusals.specs.declared.Refusal.{Refusal}
use Rattle.lexer.specs.Keywords.{words_in}
use Rattle.lexer.specs.declared.reading.Reading.{Reading}
use Rattle.phrase.specs.Chains.{tree_of, size_tree}
use Rattle.phrase.specs.Formed.{Formed}
use Rattle.phrase.specs.Read.{read_of, phrase_answer}
use Rattle.phrase.specs.declared.read.PhraseRead.{PhraseRead}
use Rattle.phrase.proofs.Phrases.{was_read, was_refused}
use Rattle.steps.specs.Plans.{plan_of}
use Rattle.steps.specs.declared.plan.Plan.{Plan}
use Rattle.ready.specs.Made.{steps_of}
use Rattle.ready.specs.Ready.{ready_of, ready_answer}

-- the steps of what is read, and a refusal as it is
abbrev pub ready_by : Result PhraseRead Refusal → Result Plan Refusal
ready_by (Ok r) = Ok (plan_of (steps_of (tree_of r.chain)))
ready_by (Err r) = Err r

module _ (reading : Reading) (s : List ℕ) where
  -- they are what is made ready
  pub by_read : ready_answer (ready_of reading (words_in reading) s) ≡ ready_by (phrase_answer (read_of reading (words_in reading) s))
  unfolding ready_of
  by_read = go (phrase_answer (read_of reading (words_in reading) s)) refl
    where
      go : (x : Result PhraseRead Refusal) → x ≡ phrase_answer (read_of reading (words_in reading) s) →
          ready_answer (ready_of reading (words_in reading) s) ≡ ready_by x
      go (Ok r) e = let read = was_read reading s e refl in rw (read.is, read.stands)
      go (Err r) e = rw (was_refused reading s e refl)

  -- and the chain of what is read is formed and has few parts
  pub few_read :
      (phrase_answer (read_of reading (words_in reading) s) ≡ phrase_answer (read_of reading (words_in reading) s))
      × IfOk (phrase_answer (read_of reading (words_in reading) s)) (λ r. Formed r.chain × (size_tree (tree_of r.chain) ≤ 21))
  few_read = (refl, go (phrase_answer (read_of reading (words_in reading) s)) refl)
    where
      go : (x : Result PhraseRead Refusal) → x ≡ phrase_answer (read_of reading (words_in reading) s) →
          IfOk x (λ r. Formed r.chain × (size_tree (tree_of r.chain) ≤ 21))
      go (Ok r) e = let read = was_read reading s e refl in (read.formed, rw read.stands read.whole.few)
      go (Err r) e = tt

-- what making ready goes by
pub ruleset making = (by_read, few_read)
