use Rattle.std.proofs.Common.{arith}
use Rattle.std.proofs.lemmas.Bool.Decides.{nat_tests}
use Rattle.tzif.specs.File.{last_at}
use Rattle.tzif.proofs.file.last_at.Goals as goal

pub returns-then-n-eq0 : goal.returns-then-n-eq0
unfolding last_at
returns-then-n-eq0 c = grind (arith, nat_tests)

pub returns-else-n-eq0 : goal.returns-else-n-eq0
unfolding last_at
returns-else-n-eq0 c = grind (arith, nat_tests)
