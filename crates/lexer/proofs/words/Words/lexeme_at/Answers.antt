-- `lexer::words::Words::lexeme_at` meets its contract. Assumes nothing.
use native.Mathlib.Omega.{arith}
use Rattle.lexer.proofs.Rows.{row_within, row_lexeme}
use Rattle.lexer.proofs.words.Words.lexeme_at.Goals as goal

pub bounds-self-i : goal.bounds-self-i
bounds-self-i c = omega (arith, row_within c.args.self.reading c.args.i c.requires c.args.self.all_rows)

pub returns : goal.returns
returns c = row_lexeme c.args.self.reading c.args.i c.requires c.args.self.all_rows
