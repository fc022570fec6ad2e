-- `reader::lex` meets its contract. The loop's invariant: the reader stands in the phrase, and what was read so far is in front of what is left.
-- Assumes nothing.
use mathlib.Core.Path.{◌≡◌}
use Prim.Native.Nat.{◌-◌}
use Rattle.lexer.specs.Keywords.{words_in}
use Rattle.lexer.proofs.Lines.{Read}
use Rattle.reader.proofs.lex.Given as goal

abbrev pub invariant-loop-token : goal.invariant-loop-token
invariant-loop-token l = record {
  same_reading : l.reader.reading ≡ l.fn.reading;
  same_phrase : l.reader.phrase.now ≡ l.fn.phrase;
  read : Read (words_in l.fn.reading) l.fn.phrase l.initial.codes l.initial.starts l.codes l.starts l.count l.reader.at;
}

abbrev pub decreases-loop-token : goal.decreases-loop-token
decreases-loop-token l = 64 - l.count
