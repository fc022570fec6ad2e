use mathlib.Core.Path.{sym, ◌∙◌}
use Rattle.numbers.proofs.NumberAnswers.{promised}
use Rattle.numbers.proofs.NumberBounds.{num_read}
use Rattle.numbers.proofs.Begins.{no_num}
use Rattle.numbers.proofs.num.Goals as goal

pub returns-then-begins_number : goal.returns-then-begins_number
returns-then-begins_number c =
    let all = promised c.begun.ensures (num_read _ _) in
    record { value = all.0; read = all.1 }

pub returns : goal.returns
returns c =
    let all = promised (sym (no_num _ _ (sym c.begins_number.ensures ∙ c.if-begins_number.false))) (num_read _ _) in
    record { value = all.0; read = all.1 }
