use native.Mathlib.Omega.{arith}
use mathlib.Core.Path.{sym, ◌∙◌}
use Rattle.calendar.proofs.Valid.{test_moment}
use Rattle.records.proofs.run.run_ready.Goals as goal

pub walk-requires : goal.walk-requires
walk-requires c =
    let valid = test_moment _ (sym c.valid.ensures ∙ c.if-not-valid.false) in
    (omega arith, (valid, valid))
