use native.Mathlib.Omega.{arith}
use mathlib.Core.Path.{sym, ◌∙◌}
use borrow.Author.Tests.{leb-false, ltb-true, ltb-false}
use Rattle.coming.proofs.Closed.{day_start, day_past, day_late, day_counted, day_found, count_short}
use Rattle.coming.proofs.next_day.Goals as goal
use Rattle.coming.proofs.next_day.Goals.{else-n-c-via-then-n-c+else-count_before-c, then-c-ge-DAYS, else-c-ge-DAYS, else-n-c-via-else-n-c}

pub returns-then-b-c-clause-value : goal.returns-then-b-c-clause-value
returns-then-b-c-clause-value c = day_start _ _ _ _ _ _ c.if-b-c.true

pub returns-then-b-ge-DAYS-clause-value : goal.returns-then-b-ge-DAYS-clause-value
returns-then-b-ge-DAYS-clause-value c = day_past _ _ _ _ _ _ c.if-b-c.false c.if-b-ge-DAYS.true

pub returns-then-count_before-c-clause-value : goal.returns-then-count_before-c-clause-value
returns-then-count_before-c-clause-value c =
    let is = c.requires.0 in
    day_found _ _ _ _ _ _ _ c.if-b-c.false c.if-b-ge-DAYS.false c.first_from-n.ensures c.if-n-c.true is.ends (elim c.if-c-ge-DAYS.branch [
      | then-c-ge-DAYS w ↦
          count_short _ _ _ c.args.c.limit _ _ is.least is.matches (omega arith) c.if-b-ge-DAYS.false w.if-c-ge-DAYS.true
      | else-c-ge-DAYS w ↦ rw (← w.count_before.ensures) (ltb-true _ _ (sym w.value-is ∙ c.if-count_before-c.true))
    ])

pub returns-else-n-c-clause-value : goal.returns-else-n-c-clause-value
returns-else-n-c-clause-value c =
    elim c.else-n-c.branch [
      | else-n-c-via-then-n-c+else-count_before-c w ↦ day_counted _ _ _ _ _ _ c.if-b-c.false (elim w.if-c-ge-DAYS.branch [
        | then-c-ge-DAYS w' ↦ absurd (omega (arith, leb-false _ _ (sym w'.value-is ∙ w.if-count_before-c.false)))
        | else-c-ge-DAYS w' ↦ rw (← w'.count_before.ensures) (ltb-false _ _ (sym w'.value-is ∙ w.if-count_before-c.false))
      ])
      | else-n-c-via-else-n-c w ↦ day_late _ _ _ _ _ _ _ c.if-b-c.false c.if-b-ge-DAYS.false c.first_from-n.ensures w.if-n-c.false
    ]
