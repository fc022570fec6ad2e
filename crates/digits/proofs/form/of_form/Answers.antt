-- `digits::form::of_form` meets its contract. Assumes nothing.
use borrow.Author.Tests.{ne_eqb}
use Rattle.std.proofs.Common.{rules}
use Rattle.digits.proofs.Forms.{form_judged, form_unlike}
use Rattle.digits.proofs.form.of_form.Goals as goal

pub returns-then-form-s : goal.returns-then-form-s
returns-then-form-s c =
    let f = c.args.form.now in
    let s = c.args.s.now in
    form_judged f s c.all.result c.if-form-s.true (search rules) (search rules)

pub returns-else-form-s : goal.returns-else-form-s
returns-else-form-s c = rw (form_unlike c.args.form.now c.args.s.now c.if-form-s.false) (ne_eqb _ _ c.if-form-s.false)
