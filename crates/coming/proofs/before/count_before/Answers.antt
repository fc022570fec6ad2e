use Rattle.repeats.proofs.Rules.{monthly_start}
use Rattle.coming.specs.Counts.{count_daily, count_before}
use Rattle.coming.proofs.before.count_before.Goals as goal

pub count_monthly-requires : goal.count_monthly-requires
count_monthly-requires c =
    let pre = c.requires in
    let own = rw c.in-Monthly.is at pre.0.matches in
    (pre.0.least, pre.0.most, pre.0.month, monthly_start _ _ _ own, pre.1, pre.2)

pub returns-in-Daily : goal.returns-in-Daily
unfolding count_before count_daily
returns-in-Daily c = rw c.in-Daily.is c.rounded_up.ensures.0

pub returns-in-Weekly : goal.returns-in-Weekly
unfolding count_before
returns-in-Weekly c = rw c.in-Weekly.is c.count_weekly.ensures

pub returns-in-Monthly : goal.returns-in-Monthly
unfolding count_before
returns-in-Monthly c = rw c.in-Monthly.is c.count_monthly.ensures
