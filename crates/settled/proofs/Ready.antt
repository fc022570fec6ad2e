-- The promises of `ready`. Assumes nothing.
use Rattle.settled.proofs.Settled.{Settled, same}
use Rattle.ready.proofs.make_ready.Reads as make_ready'

pub make_ready : Settled make_ready'.Post
make_ready = same make_ready'.Post _ _ (λ κs a z e p. p)
