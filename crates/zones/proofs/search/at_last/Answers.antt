use Rattle.std.proofs.Common.{arith}
use Rattle.std.proofs.lemmas.Bool.Decides.{nat_tests}
use Rattle.zones.proofs.Pieces.{resolve_last}
use Rattle.zones.proofs.search.at_last.Goals as goal

pub returns-then-c-start_of : goal.returns-then-c-start_of
returns-then-c-start_of c = rw resolve_last (grind (arith, nat_tests))

pub returns-else-c-start_of : goal.returns-else-c-start_of
returns-else-c-start_of c = rw resolve_last (grind (arith, nat_tests))
