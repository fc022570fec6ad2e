use Rattle.zones.proofs.Bounds.{last_place}
use Rattle.zones.proofs.instants.fixed_step.Goals as goal

pub go_back-at-requires : goal.go_back-at-requires
go_back-at-requires c = rw (last_place c.args.zone) c.requires.good.known

pub go_on-at-requires : goal.go_on-at-requires
go_on-at-requires c = rw (last_place c.args.zone) c.requires.good.known
