use mathlib.Core.Path.{◌∙◌}
use native.Mathlib.Omega.{arith}
use Rattle.repeats.specs.Firsts.{up}
use Rattle.coming.proofs.Sums.{leap_test}
use Rattle.coming.proofs.before.leap_turns.Goals as goal

pub returns-then-valid_day : goal.returns-then-valid_day
unfolding up
returns-then-valid_day c =
    let told = c.valid_day.ensures ∙ leap_test c.args.y in
    rw (← told, c.if-valid_day.true) (omega arith, omega arith)

pub returns-else-valid_day : goal.returns-else-valid_day
returns-else-valid_day c =
    let told = c.valid_day.ensures ∙ leap_test c.args.y in
    rw (← told, c.if-valid_day.false) (omega arith, omega arith)
