use native.Mathlib.Omega.{arith}
use Rattle.std.proofs.lemmas.Grind.{common_steps}
use Rattle.dates.specs.Times.{time_of}
use Rattle.dates.proofs.Parsed.{promised}
use Rattle.dates.proofs.LexemesTaken.{time_took}
use Rattle.dates.proofs.time.read_time.Goals as goal

pub returns-clause-result_value : goal.returns-clause-result_value
unfolding time_of
returns-clause-result_value c = grind (arith, common_steps)

pub returns-clause-took : goal.returns-clause-took
returns-clause-took c = (promised (returns-clause-result_value c) (time_took _ _)).1
