-- `text::stream::write_lines` meets its contract. The loop's invariant: the lines before `at` are read. Assumes nothing.
use Prim.Native.Nat.{◌-◌}
use lib.ListN.{length}
use Rattle.text.proofs.Streams.{Read}
use Rattle.text.proofs.stream.write_lines.Given as goal

abbrev pub invariant-loop-end : goal.invariant-loop-end
invariant-loop-end l = Read l.initial.known l.s l.initial.out l.out l.known l.at l.count

abbrev pub decreases-loop-end : goal.decreases-loop-end
decreases-loop-end l = length l.s - l.at
