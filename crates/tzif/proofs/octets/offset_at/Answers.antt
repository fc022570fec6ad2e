use Rattle.std.proofs.Common.{arith}
use Rattle.std.proofs.lemmas.Bool.Decides.{nat_tests}
use Rattle.tzif.specs.File.{offset_at}
use Rattle.tzif.proofs.octets.offset_at.Goals as goal

pub returns : goal.returns
unfolding offset_at
returns c = grind (arith, nat_tests)
