use Rattle.std.proofs.Common.{arith, sym, ◌∙◌}
use Rattle.calendar.proofs.Valid.{test_moment}
use Rattle.fuzzydate.proofs.ListNumbers.{is_rule}
use Rattle.fuzzydate.proofs.next_of.Goals as goal
use Rattle.fuzzydate.proofs.next_of.Goals.{then-valid, else-valid}

pub next-requires : goal.next-requires
next-requires c = elim c.if-valid.branch [
  | then-valid w ↦ (
    is_rule c.args.rule.now c.read_rule.ensures (grind arith),
    test_moment _ (sym c.valid.ensures ∙ w.if-valid.true),
    test_moment _ (sym w.valid-then-valid.ensures ∙ sym w.value-is ∙ c.if-not-valid.false),
  )
  | else-valid w ↦ absurd (grind arith)
]
