use Rattle.std.proofs.Common.{rules}
use Rattle.calendar.proofs.Outcomes.{time_valid}
use Rattle.calendar.proofs.Valid.{test_time}
use Rattle.evaluation.proofs.time.stated_time.Goals as goal

pub returns-then-valid_time-clause-valid : goal.returns-then-valid_time-clause-valid
returns-then-valid_time-clause-valid c = rw c.with_time.ensures (time_valid c.requires (test_time _ _ _ _ (search rules)))
