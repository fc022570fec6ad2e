use Rattle.std.proofs.Common.{rules}
use Rattle.calendar.specs.Moments.{is_moment}
use Rattle.calendar.proofs.moments.Moment.valid.Goals as goal

pub returns-then-valid_date : goal.returns-then-valid_date
unfolding is_moment
returns-then-valid_date c = search rules

pub returns-else-valid_date : goal.returns-else-valid_date
unfolding is_moment
returns-else-valid_date c = search rules
