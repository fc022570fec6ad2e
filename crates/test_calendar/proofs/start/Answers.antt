use mathlib.Core.Path.{sym, ◌∙◌}
use Rattle.calendar.proofs.Valid.{test_moment}
use Rattle.test_calendar.proofs.start.Goals as goal

pub steps-requires : goal.steps-requires
steps-requires g c = test_moment _ (sym c.valid.ensures ∙ c.if-valid.true)
