use native.Mathlib.Omega.{arith}
use Rattle.std.proofs.lemmas.Grind.{common_steps}
use Rattle.expressions.specs.DateExprs.{with_duration_of}
use Rattle.expressions.proofs.expr.with_duration.Goals as goal

pub returns-then-is_at-2 : goal.returns-then-is_at-2
unfolding with_duration_of
returns-then-is_at-2 c = λ dur e. let behind = c.read_after.ensures dur in grind (arith, common_steps, behind)
