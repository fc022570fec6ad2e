-- The lines of a text: "A line feed ends a line; bytes after the last one, if any, are a line." Assumes nothing.
use Rattle.std.specs.Prelude.{ℕ, ◌+◌, cond, List, [], ◌∷◌, ◌++◌, ltb, eqb, length, drop, Option, Some, None}
use Prim.Native.Char.{code}
use Rattle.scan.specs.Bytes.{index_of}

-- the byte that ends a line
abbrev pub feed : ℕ
feed = code "\n"

-- the lines that a line feed ends, where the first begins with the bytes l
abbrev pub whole_from : List ℕ → List ℕ → List (List ℕ)
whole_from l [] = []
whole_from l (b ∷ bs) = cond (eqb b feed) (l ∷ whole_from [] bs) (whole_from (l ++ (b ∷ [])) bs)

-- the bytes behind the last line feed, with the bytes l in front where there is none
abbrev pub rest_from : List ℕ → List ℕ → List ℕ
rest_from l [] = l
rest_from l (b ∷ bs) = cond (eqb b feed) (rest_from [] bs) (rest_from (l ++ (b ∷ [])) bs)

-- the lines that a line feed ends
abbrev pub whole_of : List ℕ → List (List ℕ)
whole_of s = whole_from [] s

-- the bytes behind the last line feed
abbrev pub rest_of : List ℕ → List ℕ
rest_of s = rest_from [] s

-- a line of those bytes, if any
abbrev pub last_of : List ℕ → List (List ℕ)
last_of [] = []
last_of (b ∷ bs) = (b ∷ bs) ∷ []

-- every line of a text
abbrev pub lines_of : List ℕ → List (List ℕ)
lines_of s = whole_of s ++ last_of (rest_of s)

-- where the line ends that begins at a, if a line feed ends it
unfoldable pub line_end : List ℕ → ℕ → Option ℕ
line_end s a = cond (ltb (a + index_of feed (drop a s)) (length s)) (Some (a + index_of feed (drop a s))) None
