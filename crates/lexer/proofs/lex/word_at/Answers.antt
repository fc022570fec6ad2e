-- `lexer::lex::word_at` meets its contract. Assumes nothing.
use mathlib.Core.Path.{◌≡◌, ap, ◌∙◌}
use Rattle.lexer.specs.Keywords.{words_in}
use Rattle.lexer.specs.Words.{meaning}
use Rattle.lexer.specs.Classes.{Letter}
use Rattle.lexer.specs.Lex.{run_end, word_from, word_at}
use Rattle.lexer.specs.declared.find.Looked.{Looked}
use Rattle.lexer.specs.declared.word.Key.{Key}
use Rattle.lexer.proofs.Keys.{letters_stand}
use Rattle.lexer.proofs.Letters.{word_small}
use Rattle.lexer.proofs.lex.word_at.Goals as goal

pub returns : goal.returns
unfolding word_at
returns c =
    let s = c.args.s.now in
    let a = c.args.a in
    let w = word_from s a in
    let key = c.key_at-key.ensures in
    let stands = rw (← (ap (λ (x : Key). x.head) key), ← (ap (λ (x : Key). x.tail) key)) at (letters_stand w (word_small s a)) in
    let code : c.find.result.code ≡ meaning (words_in c.args.words.reading) w = ap (λ (x : Looked). x.code) (c.find.ensures w stands) in
    let end : c.key_at-key.result.end ≡ run_end Letter s a = ap (λ (x : Key). x.end) key in
    c.coded.ensures ∙ rw (code, end)
