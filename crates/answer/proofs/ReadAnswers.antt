-- A phrase at a now by what the code's `read` gives.
use Prim.Native.Nat.{ℕ}
use mathlib.Core.Path.{◌≡◌, refl, ◌∙◌}
use mathlib.Core.Bool.{true, cond}
use mathlib.Core.List.{List}
use Rattle.std.specs.Prelude.{Result, Ok, Err, IfOk}
use Rattle.refusals.specs.Answers.{Answer, refused}
use Rattle.refusals.specs.declared.Refusal.{Refusal}
use Rattle.refusals.specs.declared.Reason.TheVariants.{InvalidMoment}
use Rattle.calendar.specs.Moments.{IsMoment, refused as unreached, is_moment}
use Rattle.calendar.specs.declared.moments.Moment.{Moment}
use Rattle.calendar.proofs.Valid.{test_moment}
use Rattle.lexer.specs.Keywords.{words_in}
use Rattle.lexer.specs.declared.reading.Reading.{Reading}
use Rattle.phrase.specs.Chains.{tree_of}
use Rattle.phrase.specs.Formed.{Formed}
use Rattle.phrase.specs.Read.{read_of, phrase_answer}
use Rattle.phrase.specs.declared.read.PhraseRead.{PhraseRead}
use Rattle.phrase.proofs.Phrases.{was_read, was_refused}
use Rattle.evaluation.specs.Evaluate.{evaluate}
use Rattle.answer.specs.Answer.{placed, answer_of}
use Rattle.answer.proofs.PhraseAtNow.{by_reading, refused_reading}

-- what a reading's chain leads to from a now, and a refusal as it is
abbrev pub answer_by : Moment → Result PhraseRead Refusal → Answer Moment
answer_by n (Ok r) = placed (cond (is_moment n) (evaluate (tree_of r.chain) n) (unreached InvalidMoment))
answer_by n (Err r) = refused r

module _ (reading : Reading) (s : List ℕ) where
  -- it is the answer
  pub by_read : (n : Moment) → answer_of reading (words_in reading) s n ≡ answer_by n (phrase_answer (read_of reading (words_in reading) s))
  by_read n = go (phrase_answer (read_of reading (words_in reading) s)) refl
    where
      go : (x : Result PhraseRead Refusal) → x ≡ phrase_answer (read_of reading (words_in reading) s) →
          answer_of reading (words_in reading) s n ≡ answer_by n x
      go (Ok r) e = let read = was_read reading s e refl in by_reading reading s read.is n ∙ rw read.stands
      go (Err r) e = refused_reading reading s (was_refused reading s e refl) n

  -- and the chain of what is read is formed
  pub formed_read :
      (phrase_answer (read_of reading (words_in reading) s) ≡ phrase_answer (read_of reading (words_in reading) s))
      × IfOk (phrase_answer (read_of reading (words_in reading) s)) (λ r. Formed r.chain)
  formed_read = (refl, go (phrase_answer (read_of reading (words_in reading) s)) refl)
    where
      go : (x : Result PhraseRead Refusal) → x ≡ phrase_answer (read_of reading (words_in reading) s) → IfOk x (λ r. Formed r.chain)
      go (Ok r) e = (was_read reading s e refl).formed
      go (Err r) e = tt

-- a now that passes the test is a moment of the calendar
pub now_is : (n : Moment) → is_moment n ≡ true → (is_moment n ≡ true) × IsMoment n
now_is n h = (h, test_moment n h)

-- what an answer goes by
pub ruleset answering = (by_read, formed_read, now_is)
