-- The promises of `stamp`. Assumes nothing.
use Rattle.settled.proofs.Settled.{Same, Settled, same, through}
use Rattle.settled.proofs.Values.{stamp_one}
use Rattle.stamp.proofs.read.read_stamp.Reads as read_stamp'
use Rattle.stamp.proofs.write.write_stamp.Reads as write_stamp'

pub read_stamp : Settled read_stamp'.Post
read_stamp = through read_stamp'.Post _ (λ κs. stamp_one) (same read_stamp'.Post _ _ (λ κs a z e p. p))

pub write_stamp : Settled write_stamp'.Post × Same write_stamp'.Post (λ κs z e. e.1.0.now)
write_stamp = (same write_stamp'.Post _ _ (λ κs a z e p. p.0), same write_stamp'.Post _ _ (λ κs a z e p. p.1))
