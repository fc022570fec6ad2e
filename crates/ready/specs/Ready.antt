-- A phrase made ready without a now.
use Rattle.std.specs.Prelude.{ℕ, List, Result, Ok, Err}
use Rattle.refusals.specs.Answers.{Answer, given, refused, and_then}
use Rattle.refusals.specs.declared.Refusal.{Refusal}
use Rattle.calendar.specs.declared.moments.Moment.{Moment}
use Rattle.lexer.specs.Words.{Word}
use Rattle.lexer.specs.declared.reading.Reading.{Reading}
use Rattle.phrase.specs.Read.{read_of}
use Rattle.answer.specs.Answer.{placed}
use Rattle.steps.specs.Plans.{plan_of}
use Rattle.steps.specs.Running.{run_of}
use Rattle.steps.specs.declared.plan.Plan.{Plan}
use Rattle.steps.specs.declared.plan.Step.{Step}
use Rattle.ready.specs.Made.{steps_of}

-- the steps, or a refusal of 1 to 7
abbrev pub ReadyPhrase : Type 0
ReadyPhrase = Answer (List Step)

-- a phrase in one of the readings, with the words of a list: "Making ready refuses only 1 to 7, as reading does, with the same number, place and part."
unfoldable pub ready_of : Reading → List Word → List ℕ → ReadyPhrase
ready_of reading ws s = and_then (read_of reading ws s) (λ x. given (steps_of x.tree))

-- the code's answer: the steps in its struct, or the refusal
abbrev pub ready_answer : ReadyPhrase → Result Plan Refusal
ready_answer (given ss) = Ok (plan_of ss)
ready_answer (refused r) = Err r

-- what was made ready, run at a now
abbrev pub run_ready : ReadyPhrase → Moment → Answer Moment
run_ready w n = and_then w (λ ss. placed (run_of ss n))
