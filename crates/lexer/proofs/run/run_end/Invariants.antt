-- `lexer::run::run_end` meets its contract. The loop's invariant: the run goes on at `end`. Assumes nothing.
use mathlib.Core.Path.{◌≡◌}
use Prim.Native.Nat.{◌≤◌, max}
use lib.ListN.{length}
use Rattle.lexer.specs.Lex.{run_end}
use Rattle.lexer.proofs.run.run_end.Given as goal

abbrev pub invariant-loop-end : goal.invariant-loop-end
invariant-loop-end l = record { within : l.end ≤ max (length l.s) l.at; on : run_end l.k l.s l.at ≡ run_end l.k l.s l.end }
