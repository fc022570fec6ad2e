-- `rules::part::value_of` meets its contract. Assumes nothing.
use Rattle.std.proofs.Common.{arith}
use Rattle.std.proofs.lemmas.Grind.{common_steps}
use Rattle.rules.specs.Parts.{named}
use Rattle.rules.proofs.Names.{short_named}
use Rattle.rules.proofs.part.value_of.Goals as goal

pub returns-in_err-front : goal.returns-in_err-front
returns-in_err-front c = rw c.from_residual.ensures (short_named _ _ c.in_err-front.ensures.cases)

pub returns-then-of_form : goal.returns-then-of_form
unfolding named
returns-then-of_form c = grind (arith, common_steps)

pub returns-else-of_form : goal.returns-else-of_form
unfolding named
returns-else-of_form c = grind (arith, common_steps)
