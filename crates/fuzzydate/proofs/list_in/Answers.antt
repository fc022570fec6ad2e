use Rattle.std.proofs.Common.{arith, sym, ◌∙◌}
use Rattle.calendar.proofs.Valid.{test_moment}
use Rattle.fuzzydate.proofs.ListNumbers.{is_rule}
use Rattle.fuzzydate.proofs.list_in.Goals as goal

pub list-requires : goal.list-requires
list-requires c =
    (is_rule c.args.rule.now c.read_rule.ensures (grind arith), test_moment _ (sym c.valid.ensures ∙ c.if-not-valid.false))
