use Rattle.std.proofs.Common.{arith}
use Rattle.std.proofs.lemmas.Bool.Decides.{nat_tests}
use Rattle.zones.specs.Search.{first_piece}
use Rattle.zones.proofs.search.first_piece.Goals as goal

pub returns-then-c-lt-WIDEST : goal.returns-then-c-lt-WIDEST
unfolding first_piece
returns-then-c-lt-WIDEST c = grind (arith, nat_tests)

pub returns-else-c-lt-WIDEST : goal.returns-else-c-lt-WIDEST
unfolding first_piece
returns-else-c-lt-WIDEST c = grind (arith, nat_tests)
