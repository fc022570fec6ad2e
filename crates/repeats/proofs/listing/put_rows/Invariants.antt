use Rattle.repeats.proofs.Rows.{Listed}
use Rattle.repeats.proofs.listing.put_rows.Given as goal

abbrev pub invariant-loop-n : goal.invariant-loop-n
invariant-loop-n l = Listed l.c l.t l.initial.moments l.moments l.n l.from
