-- What takes the lines may be called again behind each piece.
use Rattle.test_input.proofs.each_line_of.Given as goal

abbrev pub invariant-loop : goal.invariant-loop
invariant-loop g l = goal.F-IsAlwaysCallable g l.take
