use Rattle.std.proofs.Common.{rules}
use Rattle.calendar.proofs.Outcomes.{date_valid}
use Rattle.calendar.proofs.Valid.{test_date}
use Rattle.evaluation.proofs.date.stated_date.Goals as goal

pub returns-then-valid_date-clause-valid : goal.returns-then-valid_date-clause-valid
returns-then-valid_date-clause-valid c = rw c.with_date.ensures (date_valid c.requires (test_date _ _ _ (search rules)))
