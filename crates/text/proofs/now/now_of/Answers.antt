-- `text::now::now_of` meets its contract. A line of the form has 19 bytes. Assumes nothing.
use mathlib.Core.Path.{◌≡◌, sym, ◌∙◌}
use mathlib.Core.Bool.{Bool}
use native.Mathlib.Omega.{arith}
use Rattle.digits.specs.Forms.{of_form}
use Rattle.digits.proofs.Forms.{form_length}
use Rattle.text.specs.Nows.{now_form, now_of}
use Rattle.text.proofs.now.now_of.Goals as goal
use Rattle.text.proofs.now.now_of.Goals.{After-of_form}

-- what was tested
tested : (c : After-of_form) {b : Bool} → c.of_form.result ≡ b → of_form now_form c.args.line.now ≡ b
tested c e = sym c.of_form.ensures ∙ e

pub moment_in-requires : goal.moment_in-requires
moment_in-requires c =
    let line = c.args.line.now in
    omega (arith, form_length now_form line (tested (goal.at.moment_in-requires c).After-of_form c.if-of_form.true))

pub returns-then-of_form : goal.returns-then-of_form
unfolding now_of
returns-then-of_form c = rw (c.moment_in.ensures, tested (goal.at.returns-then-of_form c).After-of_form c.if-of_form.true)

pub returns : goal.returns
unfolding now_of
returns c = rw (c.no_now.ensures, tested (goal.at.returns c).After-of_form c.if-of_form.false)
