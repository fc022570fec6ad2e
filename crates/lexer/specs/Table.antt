-- "The 133 words stand in one table in byte order": a word list as the code holds it. Assumes nothing.
use Rattle.std.specs.Prelude.{ℕ, zero, suc, ◌+◌, ◌*◌, ◌%◌, ◌^◌, ◌≤◌, ◌<◌, min, max, ◌≡◌, Bool, true, false, cond, List, [], ◌∷◌, ◌++◌, T, eqb, ltb, length, get_or, drop}
use Prim.Native.Char.{code}
use Rattle.std.specs.declared.cmp.Ordering.{Ordering}
use Rattle.std.specs.declared.cmp.Ordering.TheVariants.{Less, Equal, Greater}
use Rattle.lexer.specs.Words.{Word, ordered, small}

-- whether the first of two spellings comes strictly before the second
abbrev pub is_less : Ordering → Bool
is_less Less = true
is_less Equal = false
is_less Greater = false

-- a row put before the first row that is not less
abbrev pub insert : Word → List Word → List Word
insert w [] = w ∷ []
insert w (x ∷ xs) = cond (is_less (ordered x.spelling w.spelling)) (x ∷ insert w xs) (w ∷ x ∷ xs)

-- the rows in byte order
abbrev pub sorted : List Word → List Word
sorted [] = []
sorted (w ∷ ws) = insert w (sorted ws)

-- what stands past the last row
abbrev pub blank : Word
blank = record { spelling = []; lexeme = 0 }

-- row i's word
abbrev pub spelling_at : List Word → ℕ → List ℕ
spelling_at ws i = (get_or ws i blank).spelling

-- row i's lexeme
abbrev pub lexeme_at : List Word → ℕ → ℕ
lexeme_at ws i = (get_or ws i blank).lexeme

-- what stands in a place that a word leaves free, with n places behind it: a dot and a blank in turn
abbrev pub filler : ℕ → ℕ
filler n = cond (eqb (n % 2) 0) (code ".") (code " ")

-- "a fixed string of bytes": the first n bytes of a word, and fillers in the places that it leaves free
abbrev pub fixed : ℕ → List ℕ → List ℕ
fixed zero w = []
fixed (suc n) [] = filler n ∷ fixed n []
fixed (suc n) (b ∷ w) = b ∷ fixed n w

-- "word rows, each with length and lexeme number": 8 bytes of the word and 4 more, two fillers, and the two numbers
abbrev pub row_of : Word → List ℕ
row_of w = fixed 8 w.spelling ++ fixed 4 (drop 8 w.spelling) ++ fixed 2 [] ++ (length w.spelling ∷ w.lexeme ∷ [])

-- the rows one behind the other
abbrev pub cells : List Word → List ℕ
cells [] = []
cells (w ∷ ws) = row_of w ++ cells ws

-- the number that bytes say behind v, the first the greatest
abbrev pub bytes_from : ℕ → List ℕ → ℕ
bytes_from v [] = v
bytes_from v (b ∷ bs) = bytes_from (v * 256 + b) bs

-- there is room for so many bytes behind v in a u64
pub record Room (v places : ℕ) : Type 0 where
  pub most : suc v * 256 ^ places ≤ 2 ^ 64

-- 256 to the number of places, 0 where that is no u64
abbrev pub weight_of : ℕ → ℕ
weight_of places = cond (ltb places 8) (256 ^ places) 0

-- a word's first 8 bytes as one number, and its next 4
unfoldable pub head_of : List ℕ → ℕ
head_of w = bytes_from 0 (fixed 8 w)

unfoldable pub tail_of : List ℕ → ℕ
tail_of w = bytes_from 0 (fixed 4 (drop 8 w))

-- two numbers in order, or what follows where they are the same
abbrev pub by_number : ℕ → ℕ → Ordering → Ordering
by_number x y o = cond (ltb x y) Less (cond (ltb y x) Greater o)

-- the order of a word and the one that two numbers stand for
abbrev pub by_key : List ℕ → ℕ → ℕ → Ordering
by_key w head tail = by_number (head_of w) head (by_number (tail_of w) tail Equal)

-- a byte of a word as it is compared with letters and fillers: above the fillers, and at most just above the letters
abbrev pub compared_of : ℕ → ℕ
compared_of b = max (code "/") (min b (code "{"))

-- two numbers that stand for a word: every word that a row may hold, of at most 11 small letters, has the same order with both
pub record Stands (head tail : ℕ) (w : List ℕ) : Type 0 where
  pub orders : (a : List ℕ) → T (small a) → length a < 12 → ordered a w ≡ by_key a head tail
