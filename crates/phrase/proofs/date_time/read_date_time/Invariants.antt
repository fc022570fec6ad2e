use Prim.Native.Nat.{◌-◌}
use lib.ListN.{length}
use Rattle.phrase.proofs.Outlining.{Turning}
use Rattle.phrase.proofs.date_time.read_date_time.Given as goal

abbrev pub invariant-loop-turn : goal.invariant-loop-turn
invariant-loop-turn l = Turning l.reading l.l l.taken l.m

abbrev pub decreases-loop-turn : goal.decreases-loop-turn
decreases-loop-turn l = length l.l - l.m
