-- `console::answer_all` meets its contract. The loop's invariant: some pieces are read, and the buffers are as long as before. Assumes nothing.
use Rattle.console.proofs.Turns.{Going}
use Rattle.console.proofs.answer_all.Given as goal

abbrev pub invariant-loop : goal.invariant-loop
invariant-loop g l = Going l.initial.s l.initial.out l.s l.out l.known l.held
