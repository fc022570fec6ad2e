use Rattle.std.proofs.Common.{arith}
use Rattle.std.proofs.lemmas.Bool.Decides.{nat_tests}
use Rattle.tzif.specs.File.{is_type}
use Rattle.tzif.proofs.tables.is_type.Goals as goal

pub returns-then-contains : goal.returns-then-contains
unfolding is_type
returns-then-contains c = grind (arith, nat_tests)

pub returns-else-contains : goal.returns-else-contains
unfolding is_type
returns-else-contains c = grind (arith, nat_tests)
