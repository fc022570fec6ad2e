use Rattle.evaluation.proofs.Rows.{cut}
use Rattle.evaluation.proofs.step.row.Goals as goal

pub returns-clause-value : goal.returns-clause-value
returns-clause-value c = cut _ _ _ c.requires.0
