use native.Mathlib.Omega.{arith}
use Rattle.std.proofs.lemmas.Grind.{common_steps}
use Rattle.dates.specs.Dates.{day_month_year_of, delimited_of, date_of}
use Rattle.dates.proofs.Parsed.{promised}
use Rattle.dates.proofs.LexemesTaken.{date_took}
use Rattle.dates.proofs.date.read_date.Goals as goal

pub returns-in-Some-clause-result_value : goal.returns-in-Some-clause-result_value
unfolding date_of
returns-in-Some-clause-result_value c = grind (arith, common_steps)

pub returns-in-Some-clause-took : goal.returns-in-Some-clause-took
returns-in-Some-clause-took c = (promised (returns-in-Some-clause-result_value c) (date_took _ _)).1

pub returns-in_err-first-clause-result_value : goal.returns-in_err-first-clause-result_value
unfolding date_of day_month_year_of
returns-in_err-first-clause-result_value c = grind (arith, common_steps)

pub returns-in_err-first-clause-took : goal.returns-in_err-first-clause-took
returns-in_err-first-clause-took c = (promised (returns-in_err-first-clause-result_value c) (date_took _ _)).1

pub returns-in-Some-2-clause-result_value : goal.returns-in-Some-2-clause-result_value
unfolding date_of
returns-in-Some-2-clause-result_value c = grind (arith, common_steps)

pub returns-in-Some-2-clause-took : goal.returns-in-Some-2-clause-took
returns-in-Some-2-clause-took c = (promised (returns-in-Some-2-clause-result_value c) (date_took _ _)).1

pub returns-in-Some-read_month-clause-result_value : goal.returns-in-Some-read_month-clause-result_value
unfolding date_of day_month_year_of
returns-in-Some-read_month-clause-result_value c = grind (arith, common_steps)

pub returns-in-Some-read_month-clause-took : goal.returns-in-Some-read_month-clause-took
returns-in-Some-read_month-clause-took c = (promised (returns-in-Some-read_month-clause-result_value c) (date_took _ _)).1

pub returns-in_default-first-2-clause-result_value : goal.returns-in_default-first-2-clause-result_value
unfolding date_of day_month_year_of delimited_of
returns-in_default-first-2-clause-result_value c = grind (arith, common_steps)

pub returns-in_default-first-2-clause-took : goal.returns-in_default-first-2-clause-took
returns-in_default-first-2-clause-took c = (promised (returns-in_default-first-2-clause-result_value c) (date_took _ _)).1

pub returns-clause-result_value : goal.returns-clause-result_value
unfolding date_of
returns-clause-result_value c = grind (arith, common_steps)

pub returns-clause-took : goal.returns-clause-took
returns-clause-took c = (promised (returns-clause-result_value c) (date_took _ _)).1
