use mathlib.Core.Path.{◌≡◌}
use mathlib.Core.Bool.{false}
use native.Mathlib.Omega.{arith}
use Rattle.std.proofs.lemmas.Grind.{common_steps}
use Rattle.lexer.specs.Lexemes.{Hundred, TH}
use Rattle.numbers.specs.Slices.{get, within}
use Rattle.numbers.proofs.Alone.{alone}
use Rattle.numbers.proofs.begun.Goals as goal

pub returns-in_err-n : goal.returns-in_err-n
unfolding within
returns-in_err-n c =
    let apart : within Hundred (get c.args.l.now 1) TH ≡ false = grind (arith, common_steps) in
    let h = alone c.args.reading c.args.l.now apart in
    grind (arith, common_steps, h)

pub returns-in-Some : goal.returns-in-Some
unfolding within
returns-in-Some c =
    let apart : within Hundred (get c.args.l.now 1) TH ≡ false = grind (arith, common_steps) in
    let h = alone c.args.reading c.args.l.now apart in
    grind (arith, common_steps, h)
