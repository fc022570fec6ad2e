use Rattle.std.proofs.Common.{arith}
use Rattle.std.proofs.lemmas.Bool.Decides.{nat_tests}
use Rattle.tzif.specs.File.{eight_at}
use Rattle.tzif.proofs.octets.eight.Goals as goal

pub returns : goal.returns
unfolding eight_at
returns c = grind (arith, nat_tests)
