-- The promises of `records`. Assumes nothing.
use Rattle.settled.proofs.Settled.{Same, Settled, same, through}
use Rattle.settled.proofs.Values.{reached_one}
use Rattle.records.proofs.record.encode.Reads as encode'
use Rattle.records.proofs.run.is_list.Reads as is_list'
use Rattle.records.proofs.run.step_at.Reads as step_at'
use Rattle.records.proofs.run.walk.Reads as walk'
use Rattle.records.proofs.run.run_ready.Reads as run_ready'

pub encode : Same encode'.Post (λ κs z e. e.1.0.now)
encode = same encode'.Post _ _ (λ κs a z e p. p)

pub is_list : Settled is_list'.Post
is_list = same is_list'.Post _ _ (λ κs a z e p. p)

pub step_at : Settled step_at'.Post
step_at = same step_at'.Post _ _ (λ κs a z e p. p)

pub walk : Settled walk'.Post
walk = through walk'.Post _ (λ κs. reached_one) (same walk'.Post _ _ (λ κs a z e p. p.0))

pub run_ready : Settled run_ready'.Post
run_ready = through run_ready'.Post _ (λ κs. reached_one) (same run_ready'.Post _ _ (λ κs a z e p. p.0))
