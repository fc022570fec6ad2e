-- The promises of `scan`. Assumes nothing.
use Rattle.settled.proofs.Settled.{Settled, same}
use Rattle.scan.proofs.find.Reads as find'

pub find : Settled find'.Post
find = same find'.Post _ _ (λ κs a z e p. p.0)
