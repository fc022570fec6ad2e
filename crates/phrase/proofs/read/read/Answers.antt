use native.Mathlib.Omega.{arith}
use Rattle.std.proofs.lemmas.Grind.{common_steps}
use Rattle.phrase.proofs.Phrases.{lexing_refused, read_answered}
use Rattle.phrase.proofs.read.read.Goals as goal

pub returns-in_err-n : goal.returns-in_err-n
returns-in_err-n c =
    let refused = lexing_refused c.args.reading c.args.phrase.now (rw c.in_err-n.was at c.lex.ensures.value) in
    grind (arith, common_steps, refused)

pub returns-in-Ok-Some : goal.returns-in-Ok-Some
returns-in-Ok-Some c =
    let read = read_answered c.args.reading c.args.phrase.now (rw c.in_ok-n.was at c.lex.ensures.value) c.lex.ensures.codes c.lex.ensures.starts c.gather.ensures in
    grind (arith, common_steps, read)

pub returns-in-Ok-Some-2 : goal.returns-in-Ok-Some-2
returns-in-Ok-Some-2 c =
    let read = read_answered c.args.reading c.args.phrase.now (rw c.in_ok-n.was at c.lex.ensures.value) c.lex.ensures.codes c.lex.ensures.starts c.gather.ensures in
    grind (arith, common_steps, read)

pub returns-in-Ok-None : goal.returns-in-Ok-None
returns-in-Ok-None c =
    let read = read_answered c.args.reading c.args.phrase.now (rw c.in_ok-n.was at c.lex.ensures.value) c.lex.ensures.codes c.lex.ensures.starts c.gather.ensures in
    grind (arith, common_steps, read)

pub returns-in-Err : goal.returns-in-Err
returns-in-Err c =
    let read = read_answered c.args.reading c.args.phrase.now (rw c.in_ok-n.was at c.lex.ensures.value) c.lex.ensures.codes c.lex.ensures.starts c.gather.ensures in
    grind (arith, common_steps, read)
