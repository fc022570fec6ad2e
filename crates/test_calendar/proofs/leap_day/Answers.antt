use mathlib.Core.Path.{sym, ◌∙◌}
use Rattle.calendar.proofs.Valid.{test_moment}
use Rattle.test_calendar.proofs.leap_day.Goals as goal

pub write_day-requires : goal.write_day-requires
write_day-requires g c = test_moment _ (sym c.valid.ensures ∙ c.if-valid.true)
