-- `text::stream::write_next` meets its contract. Assumes nothing.
use mathlib.Core.Path.{refl, sym}
use native.Mathlib.Nat.{add-zero}
use native.Mathlib.Omega.{arith}
use Rattle.digits.proofs.Stores.{lent_part}
use Rattle.text.specs.Output.{answer_line}
use Rattle.text.proofs.Spelled.{answer_limit}
use Rattle.text.proofs.stream.write_next.Goals as goal

pub overflow_add-result : goal.overflow_add-result
overflow_add-result c =
    let line = c.args.line.now in
    omega (arith, c.write_line.ensures.count, answer_limit c.in-Some.t line)

pub returns-in-None : goal.returns-in-None
returns-in-None c = rw c.in-None.is (record { count = sym (add-zero _); stored = refl })

pub returns-in-Some : goal.returns-in-Some
returns-in-Some c =
    let w = c.write_line.ensures in
    let args = c.args in
    let text = answer_line c.in-Some.t args.line.now in
    rw c.in-Some.is
    (record { count = omega (arith, w.count); stored = rw w.stored (lent_part args.out.now args.count text) })
