-- `lexer::lex::lex_in` meets its contract. Assumes nothing.
use mathlib.Core.Path.{◌≡◌, sym, ap, ◌∙◌}
use native.Mathlib.Omega.{arith}
use Rattle.lexer.specs.Keywords.{words_in}
use Rattle.lexer.specs.Lex.{token_at}
use Rattle.std.specs.Prelude.{Some, Ok, Err}
use Rattle.std.proofs.lemmas.Result.{err_from_is_err_and}
use Rattle.lexer.proofs.Lines.{read_begins, read_more, settled_end, settled_refused, settled_full}
use Rattle.lexer.proofs.Places.{taken_below}
use Rattle.lexer.proofs.lex.lex_in.Goals as goal
use Rattle.lexer.proofs.lex.lex_in.Goals.{In-Some}

-- what is taken there is what the phrase has there
taken : (c : In-Some) → token_at (words_in c.args.words.reading) c.args.s.now c.loop-token.at ≡ Ok (Some c.in-Some.token)
taken c = sym c.token_in.ensures ∙ c.in_ok-token.was ∙ ap Ok c.in-Some.is

pub loop-token-init : goal.loop-token-init
loop-token-init c = read_begins (words_in c.args.words.reading) c.args.s.now c.args.codes.now c.args.starts.now

pub returns-in_err-token : goal.returns-in_err-token
returns-in_err-token c =
    let r = c.in_err-token.field-0.0 in
    let p = err_from_is_err_and c.from_residual.result c.from_residual.ensures.1 in
    let all = settled_refused _ _ _ _ c.loop-token.invariant r (sym c.token_in.ensures ∙ c.in_err-token.was) in
    record { value = p.1 ∙ ap Err p.2 ∙ all.value; codes = all.codes_are; starts = all.starts_are }

pub returns-then-count-eq64 : goal.returns-then-count-eq64
returns-then-count-eq64 c =
    let here = (goal.at.returns-then-count-eq64 c).In-Some in
    let all = settled_full _ _ _ _ c.loop-token.invariant c.in-Some.token c.if-count-eq64.true (taken here) in
    record { value = all.value; codes = all.codes_are; starts = all.starts_are }

pub overflow_cast-starts : goal.overflow_cast-starts
overflow_cast-starts c =
    let here = (goal.at.overflow_cast-starts c).In-Some in
    omega (arith, c.requires, taken_below (words_in c.args.words.reading) c.args.s.now c.loop-token.at c.in-Some.token (taken here))

pub loop-token-preserved : goal.loop-token-preserved
loop-token-preserved c =
    let here = (goal.at.loop-token-preserved c).In-Some in
    read_more _ _ _ _ c.loop-token.invariant c.in-Some.token (omega arith) (taken here)

pub returns : goal.returns
returns c =
    let all = settled_end _ _ _ _ c.loop-token.invariant (sym c.token_in.ensures ∙ c.in_ok-token.was ∙ ap Ok c.in_default.is) in
    record { value = all.value; codes = all.codes_are; starts = all.starts_are }
