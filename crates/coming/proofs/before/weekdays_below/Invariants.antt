use mathlib.Core.Path.{◌≡◌}
use Prim.Native.Nat.{◌≤◌}
use Rattle.repeats.specs.Occurrences.{weekdays_of}
use Rattle.coming.specs.Counts.{count}
use Rattle.coming.proofs.before.weekdays_below.Given as goal

-- the days of the set below k are counted
abbrev pub invariant-loop-k : goal.invariant-loop-k
invariant-loop-k l = (l.sum ≤ l.k) × (l.sum ≡ count (weekdays_of l.bits l.start) l.k)
