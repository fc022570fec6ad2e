use native.Mathlib.Omega.{arith}
use Rattle.ready.proofs.Made.{planned}
use Rattle.ready.proofs.ReadReady.{making}
use Rattle.ready.proofs.make_ready.Goals as goal

pub returns : goal.returns
returns c = grind (arith, making, planned)
