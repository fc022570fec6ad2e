use mathlib.Core.Path.{refl}
use Rattle.zones.proofs.Bounds.{zone_bounds, last_place, good_years, good_moment}
use Rattle.zones.proofs.instants.clock_of.Goals as goal

pub civil_of-requires : goal.civil_of-requires
civil_of-requires c = rw (last_place c.args.zone) c.requires.good.known

pub moment_of_second-requires : goal.moment_of_second-requires
moment_of_second-requires c = rw c.civil_of.ensures (good_years _ (zone_bounds c.args.zone) _ c.requires.good)

pub returns : goal.returns
returns c =
    rw (c.moment_of_second.ensures, c.civil_of.ensures)
    (refl, good_moment _ (zone_bounds c.args.zone) c.args.x c.requires.good c.requires.small)
