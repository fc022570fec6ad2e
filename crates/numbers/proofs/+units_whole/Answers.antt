-- `units` and `whole` call each other: one proof for both, over the lexemes left.
use native.Mathlib.Omega.{arith}
use Rattle.std.proofs.lemmas.Grind.{common_steps}
use Rattle.numbers.proofs.NumberAnswers.{most, wider, promised}
use Rattle.numbers.proofs.NumberBounds.{num_triple_taken, num_read}
use Rattle.numbers.proofs.+units_whole.Goals as goal

pub units-sum-requires : goal.units-sum-requires
units-sum-requires t c = let m = most (promised c.whole.ensures (num_read _ _)).1 in grind (arith, common_steps, m)

pub whole-units-requires : goal.whole-units-requires
whole-units-requires t c = (omega arith, wider (omega arith) (promised c.num_triple-triple.ensures (num_triple_taken _ _)).1)
