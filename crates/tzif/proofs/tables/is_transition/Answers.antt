use Rattle.std.proofs.Common.{arith}
use Rattle.std.proofs.lemmas.Bool.Decides.{nat_tests}
use Rattle.tzif.specs.File.{is_transition}
use Rattle.tzif.proofs.tables.is_transition.Goals as goal

pub returns-then-file-b : goal.returns-then-file-b
unfolding is_transition
returns-then-file-b c = grind (arith, nat_tests)

pub returns-else-file-b : goal.returns-else-file-b
unfolding is_transition
returns-else-file-b c = grind (arith, nat_tests)
