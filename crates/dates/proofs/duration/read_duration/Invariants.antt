use Prim.Native.Nat.{◌-◌}
use lib.ListN.{length}
use Rattle.dates.specs.Durations.{duration_of, taken_answer}
use Rattle.dates.proofs.Durations.{sub_daily_kept, Joined}
use Rattle.dates.proofs.duration.read_duration.Given as goal

-- what was passed, and then what is joined to it, is the answer
abbrev pub invariant-loop-reading : goal.invariant-loop-reading
invariant-loop-reading l = Joined sub_daily_kept l.reading (taken_answer (duration_of l.reading l.l)) l.l l.taken l.sub_daily

abbrev pub decreases-loop-reading : goal.decreases-loop-reading
decreases-loop-reading l = length l.l - l.taken
