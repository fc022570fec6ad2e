use Prim.Native.Nat.{◌+◌, ◌*◌, ◌-◌, ◌≤◌}
use lib.ListN.{length}
use Rattle.dates.specs.Durations.{duration_of, rowed}
use Rattle.dates.proofs.Durations.{row_kept, Looking}
use Rattle.dates.proofs.duration.with_parts.Given as goal

-- what is in the row, and then what is read from here on, is the answer; three lexemes were passed for each part
abbrev pub invariant-loop-part : goal.invariant-loop-part
invariant-loop-part l =
    Looking (row_kept l.parts) l.reading (rowed l.parts (duration_of l.reading l.l)) l.l l.at l.row (record { parts = l.row; end = l.end })
    × (3 * l.row.n + length l.l ≤ 64 + l.at)

abbrev pub decreases-loop-part : goal.decreases-loop-part
decreases-loop-part l = length l.l - l.at
