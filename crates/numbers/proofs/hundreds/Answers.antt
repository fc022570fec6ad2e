use native.Mathlib.Omega.{arith}
use Rattle.std.proofs.lemmas.Grind.{common_steps}
use Rattle.numbers.proofs.NumberAnswers.{most, promised}
use Rattle.numbers.proofs.NumberBounds.{num_double_taken}
use Rattle.numbers.proofs.hundreds.Goals as goal

pub sum-requires : goal.sum-requires
sum-requires c = let m = most (promised c.num_double.ensures (num_double_taken _ _)).1 in grind (arith, common_steps, m)
