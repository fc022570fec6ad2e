-- The promises of `phrase`. Assumes nothing.
use Rattle.settled.proofs.Settled.{Same, Settled, same}
use Rattle.phrase.proofs.gather.gather.Reads as gather'
use Rattle.phrase.proofs.read.read.Reads as read'
use Rattle.phrase.proofs.read.offending.Reads as offending'

pub gather : Settled gather'.Post
gather = same gather'.Post _ _ (λ κs a z e p. p)

pub read : Settled read'.Post
read = same read'.Post _ _ (λ κs a z e p. p)

pub offending : Same offending'.Post (λ κs z e. z.now) × Same offending'.Post (λ κs z e. z.ref_ptr)
offending = (same offending'.Post _ _ (λ κs a z e p. p.0), same offending'.Post _ _ (λ κs a z e p. p.1))
