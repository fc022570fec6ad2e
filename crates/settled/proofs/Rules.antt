-- The promises of `rules`. Assumes nothing.
use Rattle.settled.proofs.Settled.{Settled, same, through}
use Rattle.settled.proofs.Values.{rule_one}
use Rattle.rules.proofs.read.read_rule.Reads as read_rule'

pub read_rule : Settled read_rule'.Post
read_rule = through read_rule'.Post _ (λ κs. rule_one) (same read_rule'.Post _ _ (λ κs a z e p. p))
