use Rattle.std.proofs.Common.{◌∙◌}
use Rattle.evaluation.proofs.Days.{that_day, way_on}
use Rattle.evaluation.proofs.weekday.forward_to.Goals as goal

pub returns-clause-result_value : goal.returns-clause-result_value
returns-clause-result_value c =
    rw c.day_number-first.ensures.0 at c.on_counted.ensures.result_value ∙ that_day _ _ _ _ (way_on _ _)
