-- How many rows a search by halves visits: the same as the code counts, and at most k of fewer than 2 ^ k. Assumes nothing.
use mathlib.Core.Path.{◌≡◌, refl, ap, ap₂, ◌∙◌}
use mathlib.Core.List.{List, [], ◌∷◌}
use Prim.Native.Nat.{ℕ, zero, suc, ◌+◌, ◌-◌, ◌/◌, ◌^◌, ◌≤◌, ◌<◌, zero-le, suc-le-suc}
use native.Mathlib.Nat.{not-suc-le-zero, pow-succ'}
use native.Mathlib.Omega.{arith}
use lib.ListN.{length, get_or, take, drop, length-take, length-drop}
use lib.Seq.{take-nil, take-take, drop-drop, get_or-take, get_or-drop, slice, length-slice}
use Rattle.lexer.specs.Words.{Word, ordered}
use Rattle.lexer.specs.Keywords.{words_in}
use Rattle.lexer.specs.Table.{sorted, blank, spelling_at}
use Rattle.lexer.specs.Visits.{onward, visits_in, visits}
use Rattle.std.specs.declared.cmp.Ordering.{Ordering}
use Rattle.std.specs.declared.cmp.Ordering.TheVariants.{Less, Equal, Greater}
use Rattle.lexer.specs.declared.reading.Reading.{Reading}
use Rattle.lexer.proofs.Rows.{rows_count, count_most}

-- a part of a part that begins where that does
take-slice : (lo mid hi : ℕ) (l : List Word) → lo ≤ mid → mid ≤ hi → take (mid - lo) (slice lo hi l) ≡ slice lo mid l
take-slice zero mid hi l h k = let all : mid - 0 ≡ mid = omega arith in rw all (take-take mid hi l k)
take-slice (suc lo) zero hi l h k = absurd (not-suc-le-zero h)
take-slice (suc lo) (suc mid) zero l h k = absurd (not-suc-le-zero k)
take-slice (suc lo) (suc mid) (suc hi) [] h k = take-nil (suc mid - suc lo)
take-slice (suc lo) (suc mid) (suc hi) (x ∷ l) h k =
    let less : suc mid - suc lo ≡ mid - lo = omega arith in rw less (take-slice lo mid hi l (omega arith) (omega arith))

-- what is still visited is no more than behind the row or before it
onward_most : (o : Ordering) (p q k : ℕ) → p ≤ k → q ≤ k → onward o p q ≤ k
onward_most Less p q k h l = h
onward_most Equal p q k h l = zero-le
onward_most Greater p q k h l = l

-- the word that is looked up
module _ (w : List ℕ) where
  -- with room for as many turns as there are rows no more room is needed
  room_enough : (n k : ℕ) (ws : List Word) → length ws ≤ n → length ws ≤ k → visits_in n ws w ≡ visits_in k ws w
  room_enough zero zero ws h l = refl
  room_enough zero (suc k) [] h l = refl
  room_enough zero (suc k) (x ∷ xs) h l = absurd (not-suc-le-zero h)
  room_enough (suc n) zero [] h l = refl
  room_enough (suc n) zero (x ∷ xs) h l = absurd (not-suc-le-zero l)
  room_enough (suc n) (suc k) [] h l = refl
  room_enough (suc n) (suc k) (x ∷ xs) h l =
      let m = length xs / 2 in
      let behind = length-drop m xs in
      let before = length-take m (x ∷ xs) in
      ap₂ (λ (p q : ℕ). suc (onward (ordered (spelling_at (x ∷ xs) m) w) p q))
      (room_enough n k (drop m xs) (omega arith) (omega arith)) (room_enough n k (take m (x ∷ xs)) (omega arith) (omega arith))

  -- rows are left: the middle one is visited, and then those behind it or before it
  visits_middle : (ws : List Word) (m : ℕ) → 0 < length ws → m ≡ (length ws - 1) / 2
      → visits ws w ≡ suc (onward (ordered (spelling_at ws m) w) (visits (drop (suc m) ws) w) (visits (take m ws) w))
  unfolding visits
  visits_middle [] m h e = absurd (not-suc-le-zero h)
  visits_middle (x ∷ xs) m h e =
      let here : length xs / 2 ≡ m = omega arith in
      let behind = length-drop m xs in
      let before = length-take m (x ∷ xs) in
      rw here
      (ap₂ (λ (p q : ℕ). suc (onward (ordered (spelling_at (x ∷ xs) m) w) p q))
      (room_enough (length xs) (length (drop m xs)) (drop m xs) (omega arith) (omega arith))
      (room_enough (length xs) (length (take m (x ∷ xs))) (take m (x ∷ xs)) (omega arith) (omega arith)))

  -- the same of the rows from `lo` up to `hi`
  pub visits_part : (ws : List Word) (lo hi mid : ℕ) → lo < hi → hi ≤ length ws → mid ≡ (lo + hi - 1) / 2
      → visits (slice lo hi ws) w
      ≡ suc (onward (ordered (spelling_at ws mid) w) (visits (slice (mid + 1) hi ws) w) (visits (slice lo mid ws) w))
  visits_part ws lo hi mid h k e =
      let part = slice lo hi ws in
      let count = length-slice lo hi ws k in
      let place : lo + (mid - lo) ≡ mid = omega arith in
      let next : lo + suc (mid - lo) ≡ mid + 1 = omega arith in
      let row : get_or part (mid - lo) blank ≡ get_or ws mid blank =
      get_or-drop lo (take hi ws) (mid - lo) blank ∙ rw place (get_or-take hi ws mid blank (omega arith)) in
      let behind : drop (suc (mid - lo)) part ≡ slice (mid + 1) hi ws = drop-drop (suc (mid - lo)) lo (take hi ws) ∙ rw next refl in
      visits_middle part (mid - lo) (omega arith) (omega arith)
      ∙ ap (λ (r : Word). suc (onward (ordered r.spelling w) (visits (drop (suc (mid - lo)) part) w) (visits (take (mid - lo) part) w))) row
      ∙ ap₂ (λ (p q : List Word). suc (onward (ordered (spelling_at ws mid) w) (visits p w) (visits q w)))
      behind (take-slice lo mid hi ws (omega arith) (omega arith))

  -- of fewer than 2 ^ k rows at most k are visited
  visits_most : (k : ℕ) (ws : List Word) → length ws < 2 ^ k → visits ws w ≤ k
  unfolding visits
  visits_most zero [] h = zero-le
  visits_most zero (x ∷ xs) h = absurd (omega arith)
  visits_most (suc k) [] h = zero-le
  visits_most (suc k) (x ∷ xs) h =
      let m = length xs / 2 in
      let twice = pow-succ' 2 k in
      let behind = length-drop (suc m) (x ∷ xs) in
      let before = length-take m (x ∷ xs) in
      rw (visits_middle (x ∷ xs) m (omega arith) (omega arith))
      (suc-le-suc
      (onward_most (ordered (spelling_at (x ∷ xs) m) w) (visits (drop m xs) w) (visits (take m (x ∷ xs)) w) k
      (visits_most k (drop m xs) (omega arith)) (visits_most k (take m (x ∷ xs)) (omega arith))))

-- "takes at most 8 comparisons with table words in either reading"
pub at_most_eight : (reading : Reading) (w : List ℕ) → visits (sorted (words_in reading)) w ≤ 8
at_most_eight reading w = visits_most w 8 (sorted (words_in reading)) (omega (arith, rows_count reading, count_most reading))
