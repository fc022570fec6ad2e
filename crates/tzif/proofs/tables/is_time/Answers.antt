use Rattle.std.proofs.Common.{arith}
use Rattle.std.proofs.lemmas.Bool.Decides.{nat_tests}
use Rattle.tzif.specs.Zones.{year_one}
use Rattle.tzif.specs.File.{is_time}
use Rattle.tzif.proofs.tables.is_time.Goals as goal

pub returns-then-t-lt-YEAR_0 : goal.returns-then-t-lt-YEAR_0
unfolding is_time year_one
returns-then-t-lt-YEAR_0 c = grind (arith, nat_tests)

pub returns-else-t-lt-YEAR_0 : goal.returns-else-t-lt-YEAR_0
unfolding is_time year_one
returns-else-t-lt-YEAR_0 c = grind (arith, nat_tests)
