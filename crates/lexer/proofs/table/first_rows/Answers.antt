-- `lexer::table::first_rows` meets its contract: the code's table is the cells of the sorted words, which antt computes. Assumes nothing.
use mathlib.Core.Path.{refl}
use Rattle.lexer.specs.Keywords.{keywords, words_in}
use Rattle.lexer.proofs.table.first_rows.Goals as goal

pub returns : goal.returns
unfolding keywords words_in
returns c = refl
