use native.Mathlib.Omega.{arith}
use Rattle.std.proofs.lemmas.Grind.{common_steps}
use Rattle.numbers.specs.Numbers.{tens_of}
use Rattle.numbers.proofs.NumberAnswers.{promised}
use Rattle.numbers.proofs.NumberBounds.{tens_taken}
use Rattle.numbers.proofs.tens.Goals as goal

pub returns-in_err-tens-clause-value : goal.returns-in_err-tens-clause-value
unfolding tens_of
returns-in_err-tens-clause-value c = grind (arith, common_steps)

pub returns-in_err-tens-clause-taken : goal.returns-in_err-tens-clause-taken
returns-in_err-tens-clause-taken c = (promised (returns-in_err-tens-clause-value c) (tens_taken _)).1

pub returns-clause-value : goal.returns-clause-value
unfolding tens_of
returns-clause-value c = grind (arith, common_steps)

pub returns-clause-taken : goal.returns-clause-taken
returns-clause-taken c = (promised (returns-clause-value c) (tens_taken _)).1
