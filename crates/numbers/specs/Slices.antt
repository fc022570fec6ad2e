-- Reading a list of lexemes at a place: what all readers share.
use Rattle.std.specs.Prelude.{ℕ, Bool, true, false, ◌&&◌, List, leb, ltb, eqb, get_or, length}

-- `l.get(i)`, or 0, which is no lexeme, past the end
unfoldable pub get : List ℕ → ℕ → ℕ
get l i = get_or l i 0

-- `l.get(i) == Some(&x)`
unfoldable pub is_at : List ℕ → ℕ → ℕ → Bool
is_at l i x = ltb i (length l) && eqb (get_or l i 0) x

-- `if b { tokens += 1; }`: the lexemes that a test takes
abbrev pub one_if : Bool → ℕ
one_if true = 1
one_if false = 0

-- `lo <= x && x <= hi`
unfoldable pub within : ℕ → ℕ → ℕ → Bool
within lo x hi = leb lo x && leb x hi
