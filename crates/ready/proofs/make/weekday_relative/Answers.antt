use native.Mathlib.Omega.{arith}
use Rattle.ready.proofs.Within.{started}
use Rattle.ready.proofs.make.weekday_relative.Goals as goal

pub returns-then-is_week : goal.returns-then-is_week
returns-then-is_week c = rw (← c.is_week.ensures, c.if-is_week.true) (started _ c.single.ensures (omega arith))

pub returns-else-is_week : goal.returns-else-is_week
returns-else-is_week c = rw (← c.is_week.ensures, c.if-is_week.false) (started _ c.single-else-is_week.ensures (omega arith))
