use native.Mathlib.Omega.{arith}
use Rattle.ready.proofs.Within.{within_start}
use Rattle.ready.proofs.make.date_relative.Goals as goal

pub add_year-requires : goal.add_year-requires
add_year-requires c = within_start _ c.single.ensures (omega arith)
