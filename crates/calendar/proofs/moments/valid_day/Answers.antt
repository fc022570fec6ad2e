use Rattle.std.proofs.Common.{arith}
use Rattle.calendar.proofs.Valid.{early_day}
use Rattle.calendar.proofs.moments.valid_day.Goals as goal

pub returns-then-d-le28 : goal.returns-then-d-le28
returns-then-d-le28 c = grind (arith, early_day)
