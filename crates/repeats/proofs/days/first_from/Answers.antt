use Rattle.repeats.specs.Firsts.{first_from}
use Rattle.repeats.proofs.Rules.{monthly_start}
use Rattle.repeats.proofs.days.first_from.Goals as goal

pub first_monthly-requires : goal.first_monthly-requires
first_monthly-requires c =
    let pre = c.requires in
    let own = rw c.in-Monthly.is at pre.0.matches in
    (pre.0.least, pre.0.most, pre.0.month, monthly_start _ _ _ own, pre.1, pre.2)

pub returns-in-Daily : goal.returns-in-Daily
unfolding first_from
returns-in-Daily c = rw (c.in-Daily.is, ← c.first_daily.ensures) c.min.ensures

pub returns-in-Weekly : goal.returns-in-Weekly
unfolding first_from
returns-in-Weekly c = rw (c.in-Weekly.is, ← c.first_weekly.ensures) c.min-in-Weekly.ensures

pub returns-in-Monthly : goal.returns-in-Monthly
unfolding first_from
returns-in-Monthly c = rw c.in-Monthly.is c.first_monthly.ensures
