use Rattle.std.proofs.Common.{rules}
use Rattle.calendar.specs.Moments.{is_time}
use Rattle.calendar.proofs.moments.valid_time.Goals as goal

pub returns-then-s-lt60 : goal.returns-then-s-lt60
unfolding is_time
returns-then-s-lt60 c = search rules

pub returns-else-s-lt60 : goal.returns-else-s-lt60
unfolding is_time
returns-else-s-lt60 c = search rules
