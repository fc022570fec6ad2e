-- `stamp::read::read_stamp` meets its contract. Assumes nothing.
use mathlib.Core.Path.{sym, ◌∙◌}
use Rattle.stamp.proofs.Grammar.{parts}
use Rattle.stamp.proofs.read.read_stamp.Goals as goal

pub judge-requires : goal.judge-requires
judge-requires c = (parts _ (sym c.is_date_time.ensures ∙ c.if-is_date_time.true)).size
