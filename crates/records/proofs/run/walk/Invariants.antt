use Prim.Native.Nat.{◌-◌, ◌*◌}
use mathlib.Core.Path.{◌≡◌}
use Rattle.calendar.specs.Moments.{IsMoment}
use Rattle.steps.specs.Running.{walk_of}
use Rattle.records.specs.Records.{steps_at}
use Rattle.records.proofs.run.walk.Given as goal

-- the steps that are left lead on from where those before them have led
abbrev pub invariant-loop-i : goal.invariant-loop-i
invariant-loop-i l = record {
  of_calendar : IsMoment l.t;
  same_way : walk_of (steps_at (l.end - l.i) l.b (16 * l.i)) l.at l.t ≡ walk_of (steps_at (l.end - l.first) l.b (16 * l.first)) l.at l.initial.t;
}
