use native.Mathlib.Omega.{arith}
use Rattle.tzif.proofs.Checked.{known, time_high}
use Rattle.tzif.proofs.zone.Zone.transition_at.Goals as goal

pub time_at-requires : goal.time_at-requires
time_at-requires c = let k = known _ _ c.args.self.checked in omega (arith, k.times)

pub returns : goal.returns
returns c = (c.time_at.ensures, rw c.time_at.ensures (time_high _ _ (known _ _ c.args.self.checked) c.args.i c.requires))
