-- The promises of `numbers`. Assumes nothing.
use Rattle.settled.proofs.Settled.{Same, Settled, same}
use Rattle.numbers.proofs.num.Reads as num'
use Rattle.numbers.proofs.slices.get.Reads as get'
use Rattle.numbers.proofs.slices.is_at.Reads as is_at'
use Rattle.numbers.proofs.slices.take_if.Reads as take-if'
use Rattle.numbers.proofs.slices.rest.Reads as rest'

pub num : Settled num'.Post
num = same num'.Post _ _ (λ κs a z e p. p.0)

pub get : Settled get'.Post
get = same get'.Post _ _ (λ κs a z e p. p.0)

pub is_at : Settled is_at'.Post
is_at = same is_at'.Post _ _ (λ κs a z e p. p.0)

pub take-if : Settled take-if'.Post
take-if = same take-if'.Post _ _ (λ κs a z e p. p.0)

pub rest : Same rest'.Post (λ κs z e. z.now) × Same rest'.Post (λ κs z e. z.ref_ptr)
rest = (same rest'.Post _ _ (λ κs a z e p. p.0), same rest'.Post _ _ (λ κs a z e p. p.1.1))
