-- `lexer::words::Words::head_at` meets its contract. Assumes nothing.
use mathlib.Core.Path.{◌∙◌}
use native.Mathlib.Omega.{arith}
use Rattle.lexer.proofs.Rows.{row_within, row_head}
use Rattle.lexer.proofs.words.Words.head_at.Goals as goal

pub bytes_at-requires : goal.bytes_at-requires
bytes_at-requires c = (omega (arith, row_within c.args.self.reading c.args.i c.requires c.args.self.all_rows), omega arith)

pub returns : goal.returns
returns c = c.bytes_at.ensures ∙ row_head c.args.self.reading c.args.i c.requires c.args.self.all_rows
