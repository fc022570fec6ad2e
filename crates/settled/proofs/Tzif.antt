-- The promises of `tzif`. Assumes nothing.
use Rattle.settled.proofs.Settled.{Settled, same, through}
use Rattle.settled.proofs.Values.{seen, zones_one, seen_of}
use Rattle.tzif.proofs.file.check.Reads as check'
use Rattle.tzif.proofs.zone.Zone.transition_at.Reads as transition_at'
use Rattle.tzif.proofs.zone.Zone.offset_behind.Reads as offset_behind'
use Rattle.tzif.proofs.octets.turned.Reads as turned'

pub check : Settled check'.Post
check = through check'.Post (λ κs. seen) (λ κs. zones_one) (same check'.Post _ _ (λ κs a z e p. seen_of z a.0 p.0 p.1))

pub transition_at : Settled transition_at'.Post
transition_at = same transition_at'.Post _ _ (λ κs a z e p. p.0)

pub offset_behind : Settled offset_behind'.Post
offset_behind = same offset_behind'.Post _ _ (λ κs a z e p. p.0)

pub turned : Settled turned'.Post
turned = same turned'.Post _ _ (λ κs a z e p. p)
