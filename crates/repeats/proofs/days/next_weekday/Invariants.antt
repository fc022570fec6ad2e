use mathlib.Core.Path.{◌≡◌}
use Prim.Native.Nat.{◌-◌}
use Rattle.repeats.specs.Held.{seek}
use Rattle.repeats.specs.Occurrences.{weekdays_of}
use Rattle.repeats.proofs.days.next_weekday.Given as goal

abbrev pub invariant-loop-k : goal.invariant-loop-k
invariant-loop-k l = seek (weekdays_of l.bits l.s) l.w (7 - l.w) ≡ seek (weekdays_of l.bits l.s) l.k (7 - l.k)
