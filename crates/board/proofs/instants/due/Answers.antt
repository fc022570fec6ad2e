use mathlib.Core.Path.{ap}
use native.Mathlib.Omega.{arith}
use Rattle.calendar.specs.Moments.{reached_of}
use Rattle.board.proofs.instants.due.Goals as goal

pub instant-requires : goal.instant-requires
instant-requires c = c.requires.valid _ (ap reached_of c.in-Ok.is)

pub returns-in-Ok : goal.returns-in-Ok
returns-in-Ok c = (rw c.in-Ok.is c.instant.ensures.0, omega (arith, c.instant.ensures.1))
