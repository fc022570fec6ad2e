use Rattle.repeats.proofs.Rules.{daily_own, weekly_own, monthly_own}
use Rattle.repeats.proofs.courses.matches.Goals as goal

pub returns-in-Daily : goal.returns-in-Daily
returns-in-Daily c = rw (c.in-Daily.is, daily_own)

pub returns-in-Weekly : goal.returns-in-Weekly
returns-in-Weekly c = rw (c.in-Weekly.is, weekly_own) c.has_weekday.ensures

pub returns-in-Monthly : goal.returns-in-Monthly
returns-in-Monthly c = rw (c.in-Monthly.is, monthly_own, c.requires)
