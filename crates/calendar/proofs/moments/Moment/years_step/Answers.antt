use Rattle.std.proofs.Common.{rules}
use Rattle.calendar.proofs.Steps.{years_in, years_out}
use Rattle.calendar.proofs.moments.Moment.years_step.Goals as goal

pub returns-in_err-n : goal.returns-in_err-n
returns-in_err-n c = search (rules, years_out)

pub returns : goal.returns
returns c = search (rules, years_in)
