use Rattle.std.proofs.Common.{rules}
use Rattle.calendar.specs.Moments.{on_day}
use Rattle.calendar.proofs.moments.Moment.on_day.Goals as goal

pub returns-then-n-lt-DAYS : goal.returns-then-n-lt-DAYS
unfolding on_day
returns-then-n-lt-DAYS c = search rules

pub returns-else-n-lt-DAYS : goal.returns-else-n-lt-DAYS
unfolding on_day
returns-else-n-lt-DAYS c = search rules
