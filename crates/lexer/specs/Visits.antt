-- What looking a word up answers: its meaning, and how many rows it is compared with. Assumes nothing.
use Rattle.std.specs.Prelude.{ℕ, zero, suc, ◌/◌, List, [], ◌∷◌, length, take, drop}
use Rattle.std.specs.declared.cmp.Ordering.{Ordering}
use Rattle.std.specs.declared.cmp.Ordering.TheVariants.{Less, Equal, Greater}
use Rattle.lexer.specs.declared.find.Looked.{Looked}
use Rattle.lexer.specs.Words.{Word, ordered, meaning}
use Rattle.lexer.specs.Table.{sorted, spelling_at}

-- what is still visited behind a row that comes before the word, spells it, or comes after it: the rows behind that row, none, or those before it
abbrev pub onward : Ordering → ℕ → ℕ → ℕ
onward Less behind before = behind
onward Equal behind before = 0
onward Greater behind before = before

-- "the middle row of those left, the lower of two", and then half of the others, with room for so many turns
abbrev pub visits_in : ℕ → List Word → List ℕ → ℕ
visits_in zero ws w = 0
visits_in (suc room) [] w = 0
visits_in (suc room) (x ∷ xs) w =
    let middle = length xs / 2 in
    suc (onward (ordered (spelling_at (x ∷ xs) middle) w) (visits_in room (drop middle xs) w) (visits_in room (take middle (x ∷ xs)) w))

-- "the number of rows that halving that reading's sorted table visits": no more turns than there are rows
unfoldable pub visits : List Word → List ℕ → ℕ
visits ws w = visits_in (length ws) ws w

-- "The answer carries the count"
abbrev pub looked_up : List Word → List ℕ → Looked
looked_up ws w = record { code = meaning ws w; count = visits (sorted ws) w }
