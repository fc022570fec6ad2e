-- The promises of `refusals`. Assumes nothing.
use Rattle.settled.proofs.Settled.{Settled, same}
use Rattle.refusals.proofs.Reason.number.Reads as number'
use Rattle.refusals.proofs.RefusalFromReason.from.Reads as from'

pub number : Settled number'.Post
number = same number'.Post _ _ (λ κs a z e p. p.0)

pub from : Settled from'.Post
from = same from'.Post _ _ (λ κs a z e p. p)
