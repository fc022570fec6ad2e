-- `lexer::table::bytes_at` meets its contract. The loop's invariant: v was read, and the other bytes follow it. Assumes nothing.
use mathlib.Core.Path.{◌≡◌}
use Prim.Native.Nat.{◌-◌}
use lib.ListN.{length, drop}
use Rattle.lexer.specs.Table.{bytes_from, Room}
use Rattle.lexer.proofs.table.bytes_at.Given as goal

abbrev pub invariant-loop-b : goal.invariant-loop-b
invariant-loop-b l = record {
  room : Room l.v (length l.b-items - l.b-index);
  number : bytes_from 0 l.b-items ≡ bytes_from l.v (drop l.b-index l.b-items);
}
