-- `lexer::find::find` meets its contract. The loop's invariant: each row before `lo` is less than the word that the numbers stand for,
-- each from `hi` on is more, and the rows that were compared are those that were visited. Assumes nothing.
use mathlib.Core.Path.{◌≡◌}
use mathlib.Core.List.{List}
use Prim.Native.Nat.{ℕ, ◌+◌, ◌-◌, ◌≤◌, ◌<◌}
use lib.ListN.{length}
use lib.Seq.{slice}
use Rattle.lexer.specs.Keywords.{words_in, count_in}
use Rattle.lexer.specs.Words.{Word, ordered}
use Rattle.lexer.specs.Table.{sorted, spelling_at, Stands}
use Rattle.lexer.specs.Visits.{visits}
use Rattle.std.specs.declared.cmp.Ordering.TheVariants.{Less, Greater}
use Rattle.lexer.specs.declared.reading.Reading.{Reading}
use Rattle.lexer.proofs.find.find.Given as goal

-- each row before `lo` is less than w
abbrev pub Below : List Word → List ℕ → ℕ → Type 0
Below ws w lo = (k : ℕ) → k < lo → ordered (spelling_at ws k) w ≡ Less

-- each row from `hi` on is more than w
abbrev pub Above : List Word → List ℕ → ℕ → Type 0
Above ws w hi = (k : ℕ) → hi ≤ k → k < length ws → ordered (spelling_at ws k) w ≡ Greater

-- what is known of the word that two numbers stand for: where it may stand, and how many rows are visited in all
pub record Known (ws : List Word) (w : List ℕ) (count lo hi : ℕ) : Type 0 where
  pub low : Below ws w lo
  pub high : Above ws w hi
  pub counted : count + visits (slice lo hi ws) w ≡ visits ws w

-- so many rows were compared, and those from `lo` up to `hi` are left
pub record Left (reading : Reading) (head tail count lo hi : ℕ) : Type 0 where
  pub within : hi ≤ count_in reading
  pub ends : lo ≤ hi
  pub few : count + hi ≤ count_in reading + lo
  pub known : (w : List ℕ) → Stands head tail w → Known (sorted (words_in reading)) w count lo hi

abbrev pub invariant-loop-lo : goal.invariant-loop-lo
invariant-loop-lo l = Left l.words.reading l.head l.tail l.count l.lo l.hi

abbrev pub decreases-loop-lo : goal.decreases-loop-lo
decreases-loop-lo l = l.hi - l.lo
