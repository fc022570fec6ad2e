use Prim.Native.Nat.{◌+◌}
use mathlib.Core.Path.{◌≡◌}
use lib.ListN.{drop}
use Rattle.ready.specs.Bounds.{Longer}
use Rattle.evaluation.proofs.Rows.{over_row}
use Rattle.ready.proofs.Rows.{step_behind}
use Rattle.ready.proofs.make.add_parts.Given as goal

abbrev pub invariant-loop-slot : goal.invariant-loop-slot
invariant-loop-slot l =
    record {
      longer : Longer l.initial.q l.q l.from (l.from + l.slot-index);
      same_way : over_row (step_behind l.back) l.row l.initial.q ≡ over_row (step_behind l.back) (drop l.slot-index l.row) l.q;
    }
