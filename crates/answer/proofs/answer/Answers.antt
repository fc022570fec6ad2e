use native.Mathlib.Omega.{arith}
use Rattle.answer.proofs.ReadAnswers.{answering}
use Rattle.answer.proofs.answer.Goals as goal

pub returns : goal.returns
returns c = grind (arith, answering)
