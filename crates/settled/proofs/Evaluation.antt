-- The promises of `evaluation`. Assumes nothing.
use Rattle.settled.proofs.Settled.{Settled, same, through}
use Rattle.settled.proofs.Values.{reached_one}
use Rattle.evaluation.proofs.date.date_at.Reads as date_at'
use Rattle.evaluation.proofs.expr.is_year.Reads as is_year'
use Rattle.evaluation.proofs.expr.is_week.Reads as is_week'
use Rattle.evaluation.proofs.expr.is_month_and_day.Reads as is_month_and_day'
use Rattle.evaluation.proofs.chain.evaluate.Reads as evaluate'
use Rattle.evaluation.proofs.time.time_at.Reads as time_at'
use Rattle.evaluation.proofs.weekday.in_week.Reads as in_week'
use Rattle.evaluation.proofs.weekday.forward_to.Reads as forward_to'
use Rattle.evaluation.proofs.weekday.back_to.Reads as back_to'

pub date_at : Settled date_at'.Post
date_at = through date_at'.Post _ (λ κs. reached_one) (same date_at'.Post _ _ (λ κs a z e p. p.0))

pub is_year : Settled is_year'.Post
is_year = same is_year'.Post _ _ (λ κs a z e p. p)

pub is_week : Settled is_week'.Post
is_week = same is_week'.Post _ _ (λ κs a z e p. p)

pub is_month_and_day : Settled is_month_and_day'.Post
is_month_and_day = same is_month_and_day'.Post _ _ (λ κs a z e p. p)

pub evaluate : Settled evaluate'.Post
evaluate = through evaluate'.Post _ (λ κs. reached_one) (same evaluate'.Post _ _ (λ κs a z e p. p.0))

pub time_at : Settled time_at'.Post
time_at = through time_at'.Post _ (λ κs. reached_one) (same time_at'.Post _ _ (λ κs a z e p. p.0))

pub in_week : Settled in_week'.Post
in_week = through in_week'.Post _ (λ κs. reached_one) (same in_week'.Post _ _ (λ κs a z e p. p.0))

pub forward_to : Settled forward_to'.Post
forward_to = through forward_to'.Post _ (λ κs. reached_one) (same forward_to'.Post _ _ (λ κs a z e p. p.0))

pub back_to : Settled back_to'.Post
back_to = through back_to'.Post _ (λ κs. reached_one) (same back_to'.Post _ _ (λ κs a z e p. p.0))
