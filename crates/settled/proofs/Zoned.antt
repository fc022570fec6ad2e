-- The promises of `zoned`. Assumes nothing.
use Rattle.settled.proofs.Settled.{Settled, same, through}
use Rattle.settled.proofs.Values.{located_one}
use Rattle.zoned.proofs.local.run_in_zone.Reads as run_in_zone'

pub run_in_zone : Settled run_in_zone'.Post
run_in_zone = through run_in_zone'.Post _ (λ κs. located_one) (same run_in_zone'.Post _ _ (λ κs a z e p. p))
