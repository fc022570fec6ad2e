use Rattle.std.proofs.lemmas.Result.{IfOk-at_ok}
use Rattle.calendar.specs.Moments.{IsMoment}
use Rattle.zones.proofs.Bounds.{zone_bounds, instant_kept}
use Rattle.zones.proofs.instants.settle.Goals as goal

pub returns-clause-kept : goal.returns-clause-kept
returns-clause-kept g c =
    rw (c.with_millisecond.ensures, c.resolve.ensures, c.second_of_moment.ensures.0)
    (instant_kept _ (zone_bounds c.args.zone) _ (IfOk-at_ok IsMoment c.in_ok-t.was c.requires))
