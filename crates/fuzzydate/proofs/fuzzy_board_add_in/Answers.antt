use Rattle.std.proofs.Common.{sym, ◌∙◌}
use native.Mathlib.Omega.{arith}
use Rattle.fuzzydate.proofs.BoardNumbers.{slot_added, none_added}
use Rattle.fuzzydate.proofs.fuzzy_board_add_in.Goals as goal

pub overflow_mul-result : goal.overflow_mul-result
overflow_mul-result c = omega (arith, (slot_added _ c.args.reading c.args.phrase.now c.add_in.ensures.value c.in-Ok.is).0)

pub returns-in-Ok-clause-value : goal.returns-in-Ok-clause-value
returns-in-Ok-clause-value c = sym (slot_added _ c.args.reading c.args.phrase.now c.add_in.ensures.value c.in-Ok.is).1

pub code-requires : goal.code-requires
code-requires c = (none_added _ c.args.reading c.args.phrase.now c.add_in.ensures.value c.in-Err.is).0

pub returns-in-Err-clause-value : goal.returns-in-Err-clause-value
returns-in-Err-clause-value c = c.code.ensures ∙ sym (none_added _ c.args.reading c.args.phrase.now c.add_in.ensures.value c.in-Err.is).1
