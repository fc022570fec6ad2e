use Prim.Native.Nat.{◌-◌, ◌*◌, ◌/◌}
use mathlib.Core.Path.{◌≡◌}
use lib.ListN.{length}
use Rattle.steps.specs.Running.{walk_in}
use Rattle.records.specs.Records.{steps_at}
use Rattle.tzif.specs.Read.{zone_read}
use Rattle.zones.specs.Instants.{Shown}
use Rattle.zoned.specs.InZone.{in_zone}
use Rattle.zoned.proofs.run.Walk.walk_in.Given as goal

abbrev pub invariant-loop-i : goal.invariant-loop-i
invariant-loop-i l =
    let z = zone_read l.self.zone in
    let ready = l.self.ready.now in
    let count = length ready / 16 in
    let now = l.self.instant in record {
      shown : Shown z l.x;
      same :
          walk_in (in_zone z) (steps_at (count - l.k) ready (16 * l.k)) now l.initial.x
          ≡ walk_in (in_zone z) (steps_at (count - l.i) ready (16 * l.i)) now l.x;
    }
