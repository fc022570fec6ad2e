-- `lexer::word::block_at` meets its contract. The loop's invariant: the number was read of i letters, and the others follow it. Assumes nothing.
use mathlib.Core.Path.{◌≡◌}
use mathlib.Core.List.{List}
use Prim.Native.Nat.{ℕ, ◌+◌, ◌-◌, ◌≤◌, min, max}
use lib.ListN.{length, drop}
use Rattle.lexer.specs.Classes.{Letter}
use Rattle.lexer.specs.Table.{fixed, bytes_from, Room}
use Rattle.lexer.specs.Lex.{run, word_from}
use Rattle.lexer.proofs.word.block_at.Given as goal

-- n bytes from `at` on: the number was read of i letters, and there are places for more
pub record Gathering (s : List ℕ) (at n number i : ℕ) : Type 0 where
  pub within : at + i ≤ max at (length s)
  pub room : Room number (n - i)
  pub same : bytes_from 0 (fixed n (word_from s at)) ≡ bytes_from number (fixed (n - i) (word_from s (at + i)))
  pub end : at + min n (run Letter (drop at s)) ≡ at + i + min (n - i) (run Letter (drop (at + i) s))

abbrev pub invariant-loop-i : goal.invariant-loop-i
invariant-loop-i l = Gathering l.s l.at l.n l.number l.i
