use borrow.Author.Tests.{eq-eqb, ne_eqb, lt-ltb, le-ltb}
use Rattle.repeats.specs.Firsts.{first_weekly}
use Rattle.repeats.proofs.days.first_weekly.Goals as goal
use Rattle.repeats.proofs.days.first_weekly.Goals.{then-weeks-c-eq0+else-here-lt7, else-weeks-c-eq0}

pub returns-then-here-lt7 : goal.returns-then-here-lt7
unfolding first_weekly
returns-then-here-lt7 c = rw (eq-eqb _ _ c.if-weeks-c-eq0.true, ← c.next_weekday-here.ensures.0, lt-ltb _ _ c.if-here-lt7.true)

pub returns : goal.returns
unfolding first_weekly
returns c =
    elim c.if-weeks-c-eq0.branch [
      | then-weeks-c-eq0+else-here-lt7 w ↦
          rw (eq-eqb _ _ w.if-weeks-c-eq0.true, ← w.next_weekday-here.ensures.0, le-ltb _ _ w.if-here-lt7.false) c.later_week.ensures
      | else-weeks-c-eq0 w ↦ rw (ne_eqb _ _ w.if-weeks-c-eq0.false) c.later_week.ensures
    ]
