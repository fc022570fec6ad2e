use Rattle.repeats.specs.Firsts.{first_daily}
use Rattle.repeats.proofs.days.first_daily.Goals as goal

pub returns : goal.returns
unfolding first_daily
returns c = rw c.rounded_up.ensures.0
