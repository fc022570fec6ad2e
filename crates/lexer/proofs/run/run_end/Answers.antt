-- `lexer::run::run_end` meets its contract. Assumes nothing.
use native.Mathlib.Omega.{arith}
use Rattle.lexer.proofs.Runs.{run_over}
use Rattle.lexer.proofs.run.run_end.Goals as goal

pub returns : goal.returns
returns c = omega (arith, run_over c.args.k c.args.s.now c.loop-end.end (omega arith))
