-- `shown::rest_size` meets its contract. Assumes nothing.
use native.Mathlib.Omega.{arith}
use Rattle.shown.proofs.Stored.{rest_length}
use Rattle.shown.proofs.rest_size.Goals as goal

pub returns : goal.returns
returns c = let size = rest_length c.args.t in (omega arith, omega arith)
