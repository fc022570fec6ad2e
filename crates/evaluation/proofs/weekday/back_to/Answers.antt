use Rattle.std.proofs.Common.{◌∙◌}
use Rattle.evaluation.proofs.Days.{same_day, way_back}
use Rattle.evaluation.proofs.weekday.back_to.Goals as goal

pub returns-clause-result_value : goal.returns-clause-result_value
returns-clause-result_value c =
    rw c.day_number-last.ensures.0 at c.on_counted.ensures.result_value ∙ same_day _ _ _ _ _ (way_back _ _)
