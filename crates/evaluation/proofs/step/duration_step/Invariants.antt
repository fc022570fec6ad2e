use Rattle.std.proofs.Common.{◌≡◌, drop}
use Rattle.calendar.specs.Moments.{IsMoment, moment}
use Rattle.evaluation.proofs.Rows.{over_row, parted}
use Rattle.evaluation.proofs.step.duration_step.Given as goal

abbrev pub invariant-loop-slot : goal.invariant-loop-slot
invariant-loop-slot l =
    record {
      of_calendar : IsMoment l.t;
      same_way : over_row (parted l.back) l.row (moment l.initial.t) ≡ over_row (parted l.back) (drop l.slot-index l.row) (moment l.t);
    }
