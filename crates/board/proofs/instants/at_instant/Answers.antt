use Rattle.board.specs.Boards.{at_instant}
use Rattle.board.proofs.instants.at_instant.Goals as goal

pub returns : goal.returns
unfolding at_instant
returns c = rw (← c.with_time.ensures) c.on_day.ensures
