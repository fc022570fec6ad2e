use Rattle.std.proofs.Common.{arith}
use Rattle.std.proofs.lemmas.Bool.Decides.{nat_tests}
use Rattle.tzif.specs.File.{is_header}
use Rattle.tzif.proofs.Blocks.{magic}
use Rattle.tzif.proofs.file.is_header.Goals as goal

pub returns-then-four-eq-MAGIC : goal.returns-then-four-eq-MAGIC
unfolding is_header
returns-then-four-eq-MAGIC c = rw magic (grind (arith, nat_tests))

pub returns-else-four-eq-MAGIC : goal.returns-else-four-eq-MAGIC
unfolding is_header
returns-else-four-eq-MAGIC c = rw magic (grind (arith, nat_tests))
