-- The promises of `shown`. Assumes nothing.
use Rattle.settled.proofs.Settled.{Same, Settled, same}
use Rattle.shown.proofs.write_phrase.Reads as write_phrase'

pub write_phrase : Settled write_phrase'.Post × Same write_phrase'.Post (λ κs z e. e.1.0.now)
write_phrase = (same write_phrase'.Post _ _ (λ κs a z e p. p.0), same write_phrase'.Post _ _ (λ κs a z e p. p.1))
