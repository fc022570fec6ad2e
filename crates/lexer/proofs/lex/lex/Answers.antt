-- `lexer::lex::lex` meets its contract. Assumes nothing.
use Rattle.lexer.specs.Keywords.{words_in}
use Rattle.lexer.proofs.Lines.{Settled}
use Rattle.lexer.proofs.Places.{answered, answered_long}
use Rattle.lexer.proofs.lex.lex.Goals as goal

pub returns-then-s-gt256 : goal.returns-then-s-gt256
returns-then-s-gt256 c =
    let a = c.args in
    let all = rw (← c.from.ensures) at (answered_long (words_in a.reading) a.s.now a.codes.now a.starts.now c.if-s-gt256.true) in
    record { value = all.value; codes = all.codes_are; starts = all.starts_are; bounds = all.bounds }

pub returns : goal.returns
returns c =
    let a = c.args in
    let read : Settled (words_in c.of.result.reading) a.s.now a.codes.now a.starts.now c.lex_in.new.codes c.lex_in.new.starts c.lex_in.result =
    record { value = c.lex_in.ensures.value; codes_are = c.lex_in.ensures.codes; starts_are = c.lex_in.ensures.starts } in
    let all = answered (words_in a.reading) a.s.now a.codes.now a.starts.now c.if-s-gt256.false (rw c.of.ensures at read) in
    record { value = all.value; codes = all.codes_are; starts = all.starts_are; bounds = all.bounds }
