-- A word list, and what a word means by it. Assumes nothing.
use Rattle.std.specs.Prelude.{ℕ, ◌+◌, Bool, true, false, ◌&&◌, cond, List, [], ◌∷◌, map, ltb, leb, Option, Some, None}
use Rattle.std.specs.declared.cmp.Ordering.{Ordering}
use Rattle.std.specs.declared.cmp.Ordering.TheVariants.{Less, Equal, Greater}
use Prim.Native.Char.{code}
use Prim.Native.String.{String}
use Rattle.digits.specs.Bytes.{bytes_of}

-- a row of the Rust's map: a spelling in bytes, and the lexeme that it gives
pub record Word : Type 0 where
  pub spelling : List ℕ
  pub lexeme : ℕ

-- `map.insert(spelling, lexeme)`
abbrev pub word : String → ℕ → Word
word s l = record { spelling = bytes_of s; lexeme = l }

-- byte order, as of the Rust's `[u8]`
abbrev pub ordered : List ℕ → List ℕ → Ordering
ordered [] [] = Equal
ordered [] (y ∷ ys) = Less
ordered (x ∷ xs) [] = Greater
ordered (x ∷ xs) (y ∷ ys) = cond (ltb x y) Less (cond (ltb y x) Greater (ordered xs ys))

-- whether two spellings are the same, byte for byte
abbrev pub is_same : Ordering → Bool
is_same Less = false
is_same Equal = true
is_same Greater = false

-- `KEYWORDS.get(w)`: the lexeme of the first row that spells w (no word of the Rust's map stands twice)
abbrev pub meaning : List Word → List ℕ → Option ℕ
meaning [] w = None
meaning (x ∷ xs) w = cond (is_same (ordered x.spelling w)) (Some x.lexeme) (meaning xs w)

-- "Letters fold to lower case": a capital letter's small one, any other byte itself
abbrev pub lower_of : ℕ → ℕ
lower_of b = cond (leb (code "A") b && leb b (code "Z")) (b + 32) b

-- a to z
abbrev pub is_small : ℕ → Bool
is_small b = leb (code "a") b && leb b (code "z")

-- a word of small letters
abbrev pub small : List ℕ → Bool
small [] = true
small (b ∷ w) = is_small b && small w

-- a word as it is looked up
abbrev pub folded : List ℕ → List ℕ
folded w = map lower_of w
