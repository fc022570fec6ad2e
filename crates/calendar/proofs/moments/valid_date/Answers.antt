use Rattle.std.proofs.Common.{rules}
use Rattle.calendar.specs.Moments.{is_date}
use Rattle.calendar.proofs.moments.valid_date.Goals as goal

pub returns-then-contains : goal.returns-then-contains
unfolding is_date
returns-then-contains c = search rules

pub returns-else-contains : goal.returns-else-contains
unfolding is_date
returns-else-contains c = search rules
