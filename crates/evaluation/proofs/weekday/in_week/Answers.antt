use Rattle.std.proofs.Common.{◌∙◌, arith}
use Rattle.evaluation.proofs.Days.{that_day}
use Rattle.evaluation.proofs.weekday.in_week.Goals as goal

pub returns-in-Next-clause-result_value : goal.returns-in-Next-clause-result_value
returns-in-Next-clause-result_value c = rw c.in-Next.is (c.on_counted.ensures.result_value ∙ that_day _ _ _ _ (omega arith))

pub returns-in-This-clause-result_value : goal.returns-in-This-clause-result_value
returns-in-This-clause-result_value c = rw c.in-This.is (c.on_counted-in-This.ensures.result_value ∙ that_day _ _ _ _ (omega arith))
