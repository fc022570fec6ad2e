-- `lexer::lex::lex_in` meets its contract. The loop's invariant: what was read so far stands in front of what is left. Assumes nothing.
use Prim.Native.Nat.{◌-◌}
use Rattle.lexer.specs.Keywords.{words_in}
use Rattle.lexer.proofs.Lines.{Read}
use Rattle.lexer.proofs.lex.lex_in.Given as goal

abbrev pub invariant-loop-token : goal.invariant-loop-token
invariant-loop-token l =
    Read (words_in l.words.reading) l.s l.initial.codes l.initial.starts l.codes l.starts l.count l.at

abbrev pub decreases-loop-token : goal.decreases-loop-token
decreases-loop-token l = 64 - l.count
