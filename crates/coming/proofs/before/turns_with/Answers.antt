use mathlib.Core.Path.{◌∙◌}
use native.Mathlib.Omega.{arith}
use Rattle.coming.proofs.Sums.{common_test, rare_test}
use Rattle.coming.proofs.before.turns_with.Goals as goal

pub returns-then-valid_day : goal.returns-then-valid_day
returns-then-valid_day c =
    let a = c.args in
    let common = c.valid_day.ensures ∙ common_test a.n a.day (omega arith) in
    rw (← common, c.if-valid_day.true) (omega arith, omega arith)

pub returns-then-valid_day-2 : goal.returns-then-valid_day-2
returns-then-valid_day-2 c =
    let a = c.args in
    let common = c.valid_day.ensures ∙ common_test a.n a.day (omega arith) in
    let rare = c.valid_day-else-valid_day.ensures ∙ rare_test a.n a.day (omega arith) in
    rw (← common, c.if-valid_day.false, ← rare, c.if-valid_day-2.true) c.leap_years.ensures

pub returns-else-valid_day-2 : goal.returns-else-valid_day-2
returns-else-valid_day-2 c =
    let a = c.args in
    let common = c.valid_day.ensures ∙ common_test a.n a.day (omega arith) in
    let rare = c.valid_day-else-valid_day.ensures ∙ rare_test a.n a.day (omega arith) in
    rw (← common, c.if-valid_day.false, ← rare, c.if-valid_day-2.false) (omega arith, omega arith)
