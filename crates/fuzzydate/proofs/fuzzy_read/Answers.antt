use Rattle.fuzzydate.proofs.Readings.{part_in}
use Rattle.fuzzydate.proofs.fuzzy_read.Goals as goal

pub answered-requires : goal.answered-requires
answered-requires c = part_in c.args.reading c.args.phrase.now c.into.result _ c.read_in.ensures
