-- `lexer::lex::number_at` meets its contract. The loop's invariant: the run goes on at its end, and what it says, cut off at the first number
-- that is too large, is what the rest says behind the value. Assumes nothing.
use mathlib.Core.Path.{◌≡◌}
use Prim.Native.Nat.{◌-◌, ◌≤◌, min}
use lib.ListN.{length}
use Rattle.digits.specs.Digits.{value_from}
use Rattle.refusals.specs.Answers.{between}
use Rattle.lexer.specs.Classes.{Digit}
use Rattle.lexer.specs.Lex.{run_end, number_from}
use Rattle.lexer.proofs.lex.number_at.Given as goal

abbrev pub invariant-loop-value : goal.invariant-loop-value
invariant-loop-value l = record {
  on : run_end Digit l.s l.a ≡ run_end Digit l.s l.end;
  most : l.value ≤ 4294967296;
  says : min (number_from l.s l.a) 4294967296 ≡ min (value_from l.value (between l.s l.end (run_end Digit l.s l.end))) 4294967296;
}

abbrev pub decreases-loop-value : goal.decreases-loop-value
decreases-loop-value l = length l.s - l.end
