-- The rows of a table as the code holds it, for any list of words. Assumes nothing.
use mathlib.Core.Path.{◌≡◌, refl, sym, ap, ◌∙◌}
use mathlib.Core.List.{List, [], ◌∷◌, ◌++◌, append_assoc}
use Prim.Native.Nat.{ℕ, zero, suc, ◌+◌, ◌*◌, ◌<◌}
use native.Mathlib.Nat.{not-suc-le-zero, le_of_suc-le-suc}
use native.Mathlib.Omega.{arith}
use lib.ListN.{length, get_or, take, drop, length-append, get_or-append}
use lib.Seq.{take_at, drop_at, drop-drop, drop-append-add, get_or-drop, get_or-append-add}
use Rattle.lexer.specs.Words.{Word}
use Rattle.lexer.specs.Table.{fixed, row_of, cells, blank, spelling_at, lexeme_at}

pub length-fixed : (n : ℕ) (w : List ℕ) → length (fixed n w) ≡ n
length-fixed zero w = refl
length-fixed (suc n) [] = ap suc (length-fixed n [])
length-fixed (suc n) (b ∷ w) = ap suc (length-fixed n w)

-- a row's word, its fillers, and the two numbers behind them
module _ (w : Word) where
  abbrev front : List ℕ
  front = fixed 8 w.spelling ++ fixed 4 (drop 8 w.spelling) ++ fixed 2 []

  front_length : length front ≡ 14
  front_length = simp (length-append, length-fixed)

  row_length : length (row_of w) ≡ 16
  row_length = simp (length-append, length-fixed)

  row_lexeme : get_or (row_of w) 15 0 ≡ w.lexeme
  row_lexeme =
      ap (λ (n : ℕ). get_or (row_of w) (n + 1) 0) (sym front_length)
      ∙ get_or-append-add front (length w.spelling ∷ w.lexeme ∷ []) 1 0

pub cells_length : (ws : List Word) → length (cells ws) ≡ length ws * 16
cells_length [] = refl
cells_length (w ∷ ws) = length-append (row_of w) (cells ws) ∙ omega (arith, row_length w, cells_length ws)

-- the table from row i on
cells_from : (ws : List Word) (i : ℕ) → i < length ws → drop (i * 16) (cells ws) ≡ row_of (get_or ws i blank) ++ cells (drop (suc i) ws)
cells_from [] i h = absurd (not-suc-le-zero h)
cells_from (w ∷ ws) zero h = refl
cells_from (w ∷ ws) (suc i) h =
    let e : suc i * 16 ≡ length (row_of w) + i * 16 = omega (arith, row_length w) in
    ap (λ (n : ℕ). drop n (row_of w ++ cells ws)) e ∙ drop-append-add (row_of w) (cells ws) (i * 16) ∙ cells_from ws i (le_of_suc-le-suc h)

-- row i: the first 8 bytes of its word, the next 4, and its lexeme
module _ (ws : List Word) (i : ℕ) (h : i < length ws) where
  abbrev rest : List ℕ
  rest = fixed 2 [] ++ (length (spelling_at ws i) ∷ lexeme_at ws i ∷ []) ++ cells (drop (suc i) ws)

  from_head : drop (i * 16) (cells ws) ≡ fixed 8 (spelling_at ws i) ++ (fixed 4 (drop 8 (spelling_at ws i)) ++ rest)
  from_head = cells_from ws i h ∙ simp append_assoc

  pub head_cells : take 8 (drop (i * 16) (cells ws)) ≡ fixed 8 (spelling_at ws i)
  head_cells = ap (take 8) from_head ∙ take_at (fixed 8 (spelling_at ws i)) _ 8 (length-fixed 8 (spelling_at ws i))

  pub tail_cells : take 4 (drop (i * 16 + 8) (cells ws)) ≡ fixed 4 (drop 8 (spelling_at ws i))
  tail_cells =
      let tail = fixed 4 (drop 8 (spelling_at ws i)) in
      ap (take 4) (sym (drop-drop 8 (i * 16) (cells ws)) ∙ ap (drop 8) from_head
      ∙ drop_at (fixed 8 (spelling_at ws i)) (tail ++ rest) 8 (length-fixed 8 (spelling_at ws i)))
      ∙ take_at tail rest 4 (length-fixed 4 (drop 8 (spelling_at ws i)))

  pub lexeme-cell : get_or (cells ws) (i * 16 + 15) 0 ≡ lexeme_at ws i
  lexeme-cell =
      let w = get_or ws i blank in
      sym (get_or-drop (i * 16) (cells ws) 15 0) ∙ ap (λ (l : List ℕ). get_or l 15 0) (cells_from ws i h)
      ∙ get_or-append (row_of w) (cells (drop (suc i) ws)) 0 15 (omega (arith, row_length w)) ∙ row_lexeme w
