use Rattle.std.proofs.Common.{rules}
use Rattle.evaluation.specs.Weekdays.{days_back}
use Rattle.calendar.proofs.Steps.{told, on_day_exact}
use Rattle.evaluation.proofs.weekday.on_counted.Goals as goal

pub returns-in_err-ok_or-clause-result_value : goal.returns-in_err-ok_or-clause-result_value
unfolding days_back
returns-in_err-ok_or-clause-result_value c = search rules

pub returns-clause-result_value : goal.returns-clause-result_value
unfolding days_back
returns-clause-result_value c = search rules

pub returns-clause-valid : goal.returns-clause-valid
returns-clause-valid c = (told (on_day_exact _ _ c.requires) c.on_day.ensures).1
