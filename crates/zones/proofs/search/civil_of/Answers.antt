use native.Mathlib.Omega.{arith}
use Rattle.tzif.proofs.Checked.{last_high}
use Rattle.zones.proofs.Bounds.{known_of}
use Rattle.zones.proofs.search.civil_of.Goals as goal

pub overflow_add-result : goal.overflow_add-result
overflow_add-result c = omega (arith, last_high _ _ (known_of c.args.zone))
