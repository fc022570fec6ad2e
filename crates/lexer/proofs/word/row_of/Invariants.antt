-- `lexer::word::row_of` meets its contract. The loop's invariant: the first i bytes stand in their places. Assumes nothing.
use mathlib.Core.Path.{◌≡◌}
use mathlib.Core.List.{map}
use lib.ListN.{take}
use Rattle.lexer.specs.Words.{folded}
use Rattle.lexer.specs.Table.{fixed, compared_of}
use Rattle.lexer.proofs.word.row_of.Given as goal

abbrev pub invariant-loop-i : goal.invariant-loop-i
invariant-loop-i l = l.row ≡ fixed 12 (take l.i (map compared_of (folded l.word)))
