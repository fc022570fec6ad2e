use Rattle.std.proofs.Common.{◌≡◌}
use Rattle.calendar.specs.Moments.{IsMoment, moment}
use Rattle.evaluation.proofs.Links.{links_at, stepped}
use Rattle.evaluation.proofs.chain.evaluate.Given as goal

abbrev pub invariant-loop-i : goal.invariant-loop-i
invariant-loop-i l =
    record {
      of_calendar : IsMoment l.t;
      same_way : links_at stepped l.r l.i (moment l.initial.t) ≡ moment l.t;
    }
