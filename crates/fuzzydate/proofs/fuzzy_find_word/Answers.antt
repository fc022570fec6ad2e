use native.Mathlib.Omega.{arith}
use Rattle.std.specs.Prelude.{ℕ, ◌<◌, Option, Some, None}
use Rattle.std.proofs.Common.{ap}
use Rattle.std.specs.Option.{unwrap_or}
use Rattle.lexer.specs.Words.{folded}
use Rattle.lexer.specs.declared.find.Looked.{Looked}
use Rattle.lexer.proofs.Written.{NoLiteral, word_below}
use Rattle.fuzzydate.proofs.fuzzy_find_word.Goals as goal

-- a word's code fits
fits : (x : Option ℕ) → NoLiteral x → unwrap_or x 0 < 4294967296
fits None h = omega arith
fits (Some l) h = omega (arith, h)

pub overflow_cast-found : goal.overflow_cast-found
overflow_cast-found c =
    let word = folded c.args.word.now in
    let means = ap (λ (x : Looked). x.code) c.look_up-looked.ensures.value in
    let below = fits _ (rw (← means) at (word_below c.in-Ok.chosen word)) in
    omega (arith, c.unwrap_or.ensures, below)
