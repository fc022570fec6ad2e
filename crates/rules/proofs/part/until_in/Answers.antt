-- `rules::part::until_in` meets its contract. Assumes nothing.
use mathlib.Core.Path.{sym, ◌∙◌}
use native.Mathlib.Omega.{arith}
use Rattle.digits.specs.Bytes.{bytes_of}
use Rattle.digits.proofs.Forms.{form_length}
use Rattle.rules.proofs.part.until_in.Goals as goal

pub moment_in-requires : goal.moment_in-requires
moment_in-requires c =
    omega (arith, form_length (bytes_of "00000000T000000") c.args.s.now (sym c.of_form-else-of_form.ensures ∙ c.if-of_form-2.true))
