use native.Mathlib.Omega.{arith}
use borrow.Author.Tests.{lt-ltb, le-ltb}
use Rattle.records.proofs.ByKind.{by_kind}
use Rattle.records.proofs.record.is_record.Goals as goal

pub returns-then-w-forms : goal.returns-then-w-forms
returns-then-w-forms c =
    let w = c.args.w in
    rw (by_kind w.kind w.form w.a w.b w.c (omega arith), ← c.forms.ensures, lt-ltb _ _ c.if-w-forms.true) c.may_have.ensures

pub returns-else-w-forms : goal.returns-else-w-forms
returns-else-w-forms c =
    let w = c.args.w in
    rw (by_kind w.kind w.form w.a w.b w.c (omega arith), ← c.forms.ensures, le-ltb _ _ c.if-w-forms.false)
