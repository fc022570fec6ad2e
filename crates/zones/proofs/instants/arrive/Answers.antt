use Rattle.std.proofs.Common.{arith}
use Rattle.std.proofs.lemmas.Bool.Decides.{nat_tests}
use Rattle.zones.proofs.Bounds.{last_place}
use Rattle.zones.proofs.instants.arrive.Goals as goal

pub returns-then-in_years : goal.returns-then-in_years
returns-then-in_years c = let last = last_place c.args.zone in grind (arith, nat_tests)

pub returns-else-in_years : goal.returns-else-in_years
returns-else-in_years c = let last = last_place c.args.zone in grind (arith, nat_tests)
