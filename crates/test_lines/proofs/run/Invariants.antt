-- Behind the bytes that are kept the piece has room.
use Prim.Native.Nat.{◌≤◌}
use Rattle.test_lines.proofs.run.Given as goal

abbrev pub invariant-loop : goal.invariant-loop
invariant-loop g l = l.held ≤ 2048
