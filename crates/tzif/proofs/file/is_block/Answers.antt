use Rattle.std.proofs.Common.{arith}
use Rattle.std.proofs.lemmas.Bool.Decides.{nat_tests}
use Rattle.tzif.specs.File.{is_block}
use Rattle.tzif.proofs.file.is_block.Goals as goal

pub returns-then-are_tables : goal.returns-then-are_tables
unfolding is_block
returns-then-are_tables c = grind (arith, nat_tests)

pub returns-else-are_tables : goal.returns-else-are_tables
unfolding is_block
returns-else-are_tables c = grind (arith, nat_tests)
