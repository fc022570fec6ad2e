use Rattle.std.proofs.Common.{arith}
use Rattle.std.proofs.lemmas.Bool.Decides.{nat_tests}
use Rattle.tzif.specs.File.{last_at}
use Rattle.zones.proofs.search.start_of.Goals as goal

pub returns-then-k-eq0 : goal.returns-then-k-eq0
unfolding last_at
returns-then-k-eq0 c = grind (arith, nat_tests)

pub returns-else-k-eq0 : goal.returns-else-k-eq0
unfolding last_at
returns-else-k-eq0 c = grind (arith, nat_tests)
