use Rattle.std.proofs.Common.{arith}
use Rattle.std.proofs.lemmas.Bool.Decides.{nat_tests}
use Rattle.tzif.specs.Zones.{year_one}
use Rattle.zones.proofs.civil.in_years.Goals as goal

pub returns : goal.returns
unfolding year_one
returns c = grind (arith, nat_tests)
