-- The promises of `coming`. Assumes nothing.
use Rattle.settled.proofs.Settled.{Settled, same}
use Rattle.coming.proofs.next.Reads as next'

pub next : Settled next'.Post
next = same next'.Post _ _ (λ κs a z e p. p)
