-- `units` and `whole` call each other: the lexemes left fall at each turn, since `units` passes fewer to `whole`, and `whole` all to `units`.
use Prim.Native.Nat.{◌+◌, ◌*◌}
use lib.ListN.{length}
use Rattle.numbers.proofs.+units_whole.Given as goal

abbrev pub decreases-units : goal.decreases-units
decreases-units l = 2 * length l.l.now

abbrev pub decreases-whole : goal.decreases-whole
decreases-whole l = 2 * length l.l.now + 1
