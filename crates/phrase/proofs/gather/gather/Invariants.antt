use Rattle.phrase.proofs.Gathering.{Gathers}
use Rattle.phrase.proofs.gather.gather.Given as goal

abbrev pub invariant-loop-i : goal.invariant-loop-i
invariant-loop-i l = Gathers l.reading l.l l.n l.o l.parts l.links l.i l.at
