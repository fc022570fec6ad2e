use Rattle.zoned.proofs.Acts.{one-step}
use Rattle.zoned.proofs.run.Walk.act_civil.Goals as goal

pub returns-clause-result_value : goal.returns-clause-result_value
returns-clause-result_value c =
    rw (c.walk.ensures.result_value, one-step, c.clock_of-t.ensures.0, c.clock_of-at.ensures.0) at c.instant_of.ensures.result_value
