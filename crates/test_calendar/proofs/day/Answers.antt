use Rattle.calendar.proofs.Outcomes.{at_moment}
use Rattle.calendar.proofs.Steps.{told, on_day_exact}
use Rattle.calendar.proofs.Valid.{first_moment_lem}
use Rattle.test_calendar.proofs.day.Goals as goal

pub write_day-requires : goal.write_day-requires
write_day-requires g c =
    let first = rw c.first.ensures at c.on_day.ensures in
    at_moment (told (on_day_exact _ _ first_moment_lem) first).1 c.in-Ok.is
