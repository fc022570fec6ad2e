-- The promises of `answer`. Assumes nothing.
use Rattle.settled.proofs.Settled.{Settled, same, through}
use Rattle.settled.proofs.Values.{answer_one}
use Rattle.answer.proofs.answer.Reads as answer'

pub answer : Settled answer'.Post
answer = through answer'.Post _ (λ κs. answer_one) (same answer'.Post _ _ (λ κs a z e p. p))
