use Rattle.std.proofs.Common.{arith}
use Rattle.std.proofs.lemmas.Bool.Decides.{nat_tests}
use Rattle.tzif.specs.File.{four_at}
use Rattle.tzif.proofs.octets.four.Goals as goal

pub returns : goal.returns
unfolding four_at
returns c = grind (arith, nat_tests)
