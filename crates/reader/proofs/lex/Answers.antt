-- `reader::lex` meets its contract. Assumes nothing.
use mathlib.Core.Path.{◌≡◌, refl, sym, ap, ◌∙◌}
use native.Mathlib.Omega.{arith}
use Rattle.std.specs.Prelude.{Ok, Err, Option, Result}
use Rattle.std.proofs.lemmas.Result.{err_from_is_err_and}
use Rattle.refusals.specs.declared.Refusal.{Refusal}
use Rattle.lexer.specs.Keywords.{words_in}
use Rattle.lexer.specs.Lex.{token_at}
use Rattle.lexer.specs.declared.lex.Token.{Token}
use Rattle.lexer.proofs.Lines.{read_begins, read_more, settled_end, settled_refused, settled_full}
use Rattle.lexer.proofs.Places.{taken_below, answered, answered_long}
use Rattle.reader.proofs.lex.Goals as goal
use Rattle.reader.proofs.lex.Goals.{After-next}

-- what the reader gives next is what the phrase has at its place
given : (c : After-next) {w : Result (Option Token) Refusal} → c.next.result ≡ w → token_at (words_in c.args.reading) c.args.phrase.now c.loop-token.reader.at ≡ w
given c e = rw (c.loop-token.invariant.same_reading, c.loop-token.invariant.same_phrase) at (sym c.next.ensures ∙ e)

pub returns-then-phrase-gt256 : goal.returns-then-phrase-gt256
returns-then-phrase-gt256 c =
    let a = c.args in
    let all = rw (← c.from.ensures) at (answered_long (words_in a.reading) a.phrase.now a.codes.now a.starts.now c.if-phrase-gt256.true) in
    record { value = all.value; codes = all.codes_are; starts = all.starts_are; bounds = all.bounds }

pub loop-token-init : goal.loop-token-init
loop-token-init c =
    let a = c.args in
    rw c.new-reader.ensures
    (record { same_reading = refl; same_phrase = refl; read = read_begins (words_in a.reading) a.phrase.now a.codes.now a.starts.now })

pub returns-in_err-token : goal.returns-in_err-token
returns-in_err-token c =
    let here = (goal.at.returns-in_err-token c).After-next in
    let r = c.in_err-token.field-0.0 in
    let p = err_from_is_err_and c.from_residual.result c.from_residual.ensures.1 in
    let read = settled_refused _ _ _ _ c.loop-token.invariant.read r (given here c.in_err-token.was) in
    let all = answered _ _ _ _ c.if-phrase-gt256.false (rw (← (p.1 ∙ ap Err p.2)) at read) in
    record { value = all.value; codes = all.codes_are; starts = all.starts_are; bounds = all.bounds }

pub returns-then-count-eq64 : goal.returns-then-count-eq64
returns-then-count-eq64 c =
    let here = (goal.at.returns-then-count-eq64 c).After-next in
    let read = settled_full _ _ _ _ c.loop-token.invariant.read c.in-Some.token c.if-count-eq64.true (given here (c.in_ok-token.was ∙ ap Ok c.in-Some.is)) in
    let all = answered _ _ _ _ c.if-phrase-gt256.false read in
    record { value = all.value; codes = all.codes_are; starts = all.starts_are; bounds = all.bounds }

pub overflow_cast-starts : goal.overflow_cast-starts
overflow_cast-starts c =
    let here = (goal.at.overflow_cast-starts c).After-next in
    let below = taken_below (words_in c.args.reading) c.args.phrase.now c.loop-token.reader.at c.in-Some.token (given here (c.in_ok-token.was ∙ ap Ok c.in-Some.is)) in
    omega (arith, c.if-phrase-gt256.false, below)

pub loop-token-preserved : goal.loop-token-preserved
loop-token-preserved c =
    let here = (goal.at.loop-token-preserved c).After-next in
    let l = c.loop-token.invariant in
    rw c.behind-reader.ensures
    (record { same_reading = l.same_reading; same_phrase = l.same_phrase; read = read_more _ _ _ _ l.read c.in-Some.token (omega arith) (given here (c.in_ok-token.was ∙ ap Ok c.in-Some.is)) })

pub returns : goal.returns
returns c =
    let here = (goal.at.returns c).After-next in
    let read = settled_end _ _ _ _ c.loop-token.invariant.read (given here (c.in_ok-token.was ∙ ap Ok c.in_default.is)) in
    let all = answered _ _ _ _ c.if-phrase-gt256.false read in
    record { value = all.value; codes = all.codes_are; starts = all.starts_are; bounds = all.bounds }
