-- The words of a reading in byte order, as the code's tables hold them: what is computed of them, and what each row holds. Assumes nothing.
use mathlib.Core.Path.{◌≡◌, refl, ap}
use mathlib.Core.Bool.{Bool, true, ◌&&◌}
use mathlib.Core.List.{List, [], ◌∷◌}
use Prim.Native.Nat.{ℕ, zero, suc, ◌+◌, ◌*◌, ◌≤◌, ◌<◌}
use native.Mathlib.Nat.{not-suc-le-zero, le_of_suc-le-suc}
use native.Mathlib.Omega.{arith}
use lib.Dec.{T, ltb, ltb→lt}
use lib.Ieee.Fits.{and_l, and_r}
use lib.ListN.{length, get_or, take, drop}
use Rattle.lexer.specs.Keywords.{keywords, words_in, count_in}
use Rattle.lexer.specs.Words.{Word, small}
use Rattle.lexer.specs.Table.{sorted, cells, spelling_at, lexeme_at, bytes_from, head_of, tail_of}
use Rattle.lexer.specs.declared.reading.Reading.{Reading}
use Rattle.lexer.specs.declared.reading.Reading.TheVariants.{First, Second}
use Rattle.lexer.proofs.Cells.{cells_length, head_cells, tail_cells, lexeme-cell}
use Rattle.lexer.proofs.Halves.{increasing}

-- each word has at most 11 letters, all of them small
abbrev spelled : Word → Bool
spelled w = ltb (length w.spelling) 12 && small w.spelling

-- and so has each of a list
abbrev all_spelled : List Word → Bool
all_spelled [] = true
all_spelled (w ∷ ws) = spelled w && all_spelled ws

-- there are as many rows as the reading has words
pub rows_count : (reading : Reading) → length (sorted (words_in reading)) ≡ count_in reading
unfolding keywords words_in
rows_count First = refl
rows_count Second = refl

-- the words are spelled so
rows_spelled : (reading : Reading) → T (all_spelled (sorted (words_in reading)))
unfolding keywords words_in
rows_spelled First = tt
rows_spelled Second = tt

-- they are strictly sorted: no word stands twice
pub rows_increasing : (reading : Reading) → T (increasing (sorted (words_in reading)))
unfolding keywords words_in
rows_increasing First = tt
rows_increasing Second = tt

-- no reading has more than 136 words
pub count_most : (reading : Reading) → count_in reading ≤ 136
count_most First = omega arith
count_most Second = omega arith

-- a row is 16 bytes
cells_count : (reading : Reading) → length (cells (sorted (words_in reading))) ≡ count_in reading * 16
cells_count reading = omega (arith, cells_length (sorted (words_in reading)), rows_count reading)

-- the word of a row is spelled so
spelled_at : (ws : List Word) → T (all_spelled ws) → (i : ℕ) → i < length ws
    → T (ltb (length (spelling_at ws i)) 12 && small (spelling_at ws i))
spelled_at [] t i h = absurd (not-suc-le-zero h)
spelled_at (w ∷ ws) t zero h = and_l (spelled w) (all_spelled ws) t
spelled_at (w ∷ ws) t (suc i) h = spelled_at ws (and_r (spelled w) (all_spelled ws) t) i (le_of_suc-le-suc h)

-- row i of a reading's table
module _ (reading : Reading) (i : ℕ) (h : i < count_in reading) where
  abbrev rows : List Word
  rows = sorted (words_in reading)

  abbrev spelling : List ℕ
  spelling = spelling_at rows i

  -- it is a row of the table
  pub in_table : i < length rows
  in_table = omega (arith, rows_count reading)

  -- its word has at most 11 letters, all of them small
  row_spelled : T (ltb (length spelling) 12 && small spelling)
  row_spelled = spelled_at rows (rows_spelled reading) i in_table

  pub row_short : length spelling < 12
  row_short = ltb→lt (length spelling) 12 (and_l (ltb (length spelling) 12) (small spelling) row_spelled)

  pub row_small : T (small spelling)
  row_small = and_r (ltb (length spelling) 12) (small spelling) row_spelled

  -- the same in the rows that are lent
  module _ {words : List ℕ} (lent : words ≡ cells rows) where
    -- its 16 bytes
    pub row_within : i * 16 + 16 ≤ length words
    row_within = rw lent (omega (arith, cells_count reading))

    -- the first 8 of its word as one number
    pub row_head : bytes_from 0 (take 8 (drop (i * 16) words)) ≡ head_of spelling
    unfolding head_of
    row_head = rw lent (ap (bytes_from 0) (head_cells rows i in_table))

    -- the next 4
    pub row_tail : bytes_from 0 (take 4 (drop (i * 16 + 8) words)) ≡ tail_of spelling
    unfolding tail_of
    row_tail = rw lent (ap (bytes_from 0) (tail_cells rows i in_table))

    -- what it means
    pub row_lexeme : get_or words (i * 16 + 15) 0 ≡ lexeme_at rows i
    row_lexeme = rw lent (lexeme-cell rows i in_table)
