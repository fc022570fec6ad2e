use native.Mathlib.Omega.{arith}
use borrow.Author.Tests.{eq-eqb, ne_eqb}
use Rattle.coming.specs.Counts.{rank}
use Rattle.coming.proofs.before.weekly_rank.Goals as goal

pub returns-then-weeks-c-eq0 : goal.returns-then-weeks-c-eq0
unfolding rank
returns-then-weeks-c-eq0 c =
    rw (eq-eqb _ _ c.if-weeks-c-eq0.true, ← c.weekdays_below.ensures.0, ← c.rounded_up.ensures.0, ← c.weekdays_below-then-weeks-c-eq0.ensures.0)

pub returns-else-weeks-c-eq0 : goal.returns-else-weeks-c-eq0
unfolding rank
returns-else-weeks-c-eq0 c = rw (ne_eqb _ _ c.if-weeks-c-eq0.false, ← c.weekdays_below.ensures.0, ← c.rounded_up.ensures.0) (omega arith)
