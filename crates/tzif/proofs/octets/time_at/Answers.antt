use Rattle.std.proofs.Common.{arith}
use Rattle.std.proofs.lemmas.Bool.Decides.{nat_tests}
use Rattle.tzif.specs.File.{time_at}
use Rattle.tzif.proofs.octets.time_at.Goals as goal

pub returns : goal.returns
unfolding time_at
returns c = grind (arith, nat_tests)
