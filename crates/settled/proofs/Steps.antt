-- The promises of `steps`. Assumes nothing.
use Rattle.settled.proofs.Settled.{Settled, same, through}
use Rattle.settled.proofs.Values.{reached_one}
use Rattle.steps.proofs.plan.none.Reads as none'
use Rattle.steps.proofs.plan.single.Reads as single'
use Rattle.steps.proofs.plan.add.Reads as add'
use Rattle.steps.proofs.run.act.Reads as act'
use Rattle.steps.proofs.run.is_start.Reads as is_start'
use Rattle.steps.proofs.run.one_if_time.Reads as one-if_time'
use Rattle.steps.proofs.run.times_due.Reads as times_due'

pub none : Settled none'.Post
none = same none'.Post _ _ (λ κs a z e p. p)

pub single : Settled single'.Post
single = same single'.Post _ _ (λ κs a z e p. p)

pub add : Settled add'.Post
add = same add'.Post _ _ (λ κs a z e p. p)

pub act : Settled act'.Post
act = through act'.Post _ (λ κs. reached_one) (same act'.Post _ _ (λ κs a z e p. p.0))

pub is_start : Settled is_start'.Post
is_start = same is_start'.Post _ _ (λ κs a z e p. p)

pub one-if_time : Settled one-if_time'.Post
one-if_time = same one-if_time'.Post _ _ (λ κs a z e p. p.0)

pub times_due : Settled times_due'.Post
times_due = same times_due'.Post _ _ (λ κs a z e p. p)
