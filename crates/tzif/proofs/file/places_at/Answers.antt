use Rattle.tzif.specs.File.{places_at}
use Rattle.tzif.proofs.file.places_at.Goals as goal

pub returns : goal.returns
unfolding places_at
returns c = rw (← c.last_at.ensures)
