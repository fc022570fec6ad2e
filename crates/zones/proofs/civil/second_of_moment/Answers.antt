use Prim.Native.Nat.{ℕ, ◌+◌}
use native.Mathlib.Omega.{arith}
use mathlib.Core.Path.{ap}
use Rattle.tzif.specs.Zones.{year_one}
use Rattle.zones.proofs.civil.second_of_moment.Goals as goal

pub returns : goal.returns
unfolding year_one
returns c = (ap (λ (n : ℕ). 9223371974719269008 + n) c.second_number.ensures.0, omega arith)
