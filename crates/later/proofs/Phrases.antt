-- E10, "A later now never goes back": phrases, through the steps that they are made ready as.
use Prim.Native.Nat.{ℕ}
use native.Mathlib.Omega.{arith}
use mathlib.Core.Path.{◌≡◌, ◌∙◌}
use mathlib.Core.List.{List}
use Rattle.refusals.specs.Answers.{Answer, given, refused, and_then}
use Rattle.calendar.specs.declared.moments.Moment.{Moment}
use Rattle.lexer.specs.Keywords.{words_in}
use Rattle.lexer.specs.declared.reading.Reading.{Reading}
use Rattle.answer.specs.Answer.{placed, answer_of}
use Rattle.steps.specs.Running.{run_of}
use Rattle.ready.specs.Ready.{ready_of}
use Rattle.ready.proofs.ReadyPhrases.{ready_answers}
use Rattle.later.specs.Nows.{NeverBack}
use Rattle.later.proofs.Lists.{steps_never_back}

-- behind an answer that does not depend on now
pub then_never_back :
    {A : Type 0} (w : Answer A) (f : A → Moment → Answer Moment) → ((x : A) → NeverBack (f x)) → NeverBack (λ n. and_then w (λ x. f x n))
then_never_back (given x) f h = h x
then_never_back (refused r) f h =
    record { never_back = λ n m same order e f. let z : ◌≡◌ {A = ℕ} 0 1 = cc in absurd (omega arith) }

-- for either reading and every byte string
pub later_now_never_back : (reading : Reading) (s : List ℕ) → NeverBack (answer_of reading (words_in reading) s)
later_now_never_back reading s =
    let made = then_never_back (ready_of reading (words_in reading) s) (λ ss n. placed (run_of ss n)) steps_never_back in
    record {
      never_back =
          λ n m same order e f. made.never_back n m same order (ready_answers reading s n ∙ e) (ready_answers reading s m ∙ f);
    }
