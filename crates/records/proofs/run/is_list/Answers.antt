use borrow.Author.Rules.{rules}
use mathlib.Core.Path.{◌≡◌, sym, ◌∙◌}
use mathlib.Core.Bool.{true}
use Rattle.records.specs.Records.{words_at, is_record}
use Rattle.records.proofs.Runs.{by_first}
use Rattle.records.proofs.run.is_list.Goals as goal

pub returns-then-is_record : goal.returns-then-is_record
returns-then-is_record c =
    let l = c.args.b.now in
    let w = c.words_at-w.ensures in
    let test : is_record (words_at l 0) ≡ true = rw (← w) (sym c.is_record.ensures ∙ c.if-is_record.true) in
    let step = rw w at c.step_from.ensures in
    rw (by_first l c.if-b-gt-READY_SIZE.false c.if-b-ne0.false (search rules), test, ← step) c.is_formed.ensures
