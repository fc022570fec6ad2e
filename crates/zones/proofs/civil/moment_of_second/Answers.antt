use native.Mathlib.Omega.{arith}
use Rattle.tzif.specs.Zones.{year_one}
use Rattle.zones.proofs.Moments.{second_within}
use Rattle.zones.proofs.civil.moment_of_second.Goals as goal

pub overflow_sub-c : goal.overflow_sub-c
unfolding year_one
overflow_sub-c c = omega (arith, (second_within c.args.c c.args.millisecond c.requires).1)

pub at_second-requires : goal.at_second-requires
unfolding year_one
at_second-requires c = (second_within c.args.c c.args.millisecond c.requires).0

pub returns : goal.returns
unfolding year_one
returns c = c.at_second.ensures
