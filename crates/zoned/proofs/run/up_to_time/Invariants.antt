use Prim.Native.Nat.{◌+◌, ◌-◌, ◌*◌}
use mathlib.Core.Path.{◌≡◌}
use Rattle.records.specs.Records.{steps_at}
use Rattle.zoned.specs.Kinds.{up_to_time}
use Rattle.zoned.proofs.run.up_to_time.Given as goal

abbrev pub invariant-loop-i : goal.invariant-loop-i
invariant-loop-i l = up_to_time (steps_at l.count l.b 0) ≡ l.i + up_to_time (steps_at (l.count - l.i) l.b (16 * l.i))
