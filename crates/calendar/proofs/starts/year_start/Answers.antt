use Rattle.calendar.proofs.YearStarts.{start_at_lem}
use Rattle.calendar.proofs.starts.year_start.Goals as goal

pub returns : goal.returns
returns c = start_at_lem c.args.k c.requires
