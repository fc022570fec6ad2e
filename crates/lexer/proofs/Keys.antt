-- Words as numbers: the order of two words is that of their first 8 bytes, then of their next 4, each read as a number. Assumes nothing.
use mathlib.Core.Path.{◌≡◌, refl, sym, ap, ◌∙◌}
use mathlib.Core.Bool.{Bool, true, false, cond}
use mathlib.Core.List.{List, [], ◌∷◌, map}
use Prim.Native.Nat.{ℕ, zero, suc, ◌+◌, ◌*◌, ◌%◌, ◌≤◌, ◌<◌}
use native.Mathlib.Nat.{not-suc-le-zero, le_of_suc-le-suc}
use native.Mathlib.Omega.{arith}
use lib.Dec.{T, eqb, leb, leb→le}
use lib.Ieee.Fits.{and_l, and_r}
use lib.ListN.{length, drop, length-drop}
use borrow.Author.Tests.{lt-ltb, le-ltb}
use Rattle.digits.proofs.Order.{Tri, below, equal, above, tri}
use Rattle.std.specs.declared.cmp.Ordering.{Ordering}
use Rattle.std.specs.declared.cmp.Ordering.TheVariants.{Less, Equal, Greater}
use Rattle.lexer.specs.Words.{ordered, is_small, small}
use Rattle.lexer.specs.Table.{filler, fixed, bytes_from, head_of, tail_of, by_number, by_key, compared_of, Stands}

-- each byte of a word is above the fillers
abbrev Plain : List ℕ → Type 0
Plain [] = Unit {0}
Plain (b ∷ w) = ((46 < b) × (b < 256)) × Plain w

plain_drop : (n : ℕ) (w : List ℕ) → Plain w → Plain (drop n w)
plain_drop zero w t = t
plain_drop (suc n) [] t = tt
plain_drop (suc n) (b ∷ w) t = plain_drop n w t.1

-- a letter of a word of small letters, and the letters behind it
module _ (b : ℕ) (w : List ℕ) (t : T (small (b ∷ w))) where
  first_least : 97 ≤ b
  first_least = leb→le 97 b (and_l (leb 97 b) (leb b 122) (and_l (is_small b) (small w) t))

  first_most : b ≤ 122
  first_most = leb→le b 122 (and_r (leb 97 b) (leb b 122) (and_l (is_small b) (small w) t))

  rest_small : T (small w)
  rest_small = and_r (is_small b) (small w) t

small_plain : (w : List ℕ) → T (small w) → Plain w
small_plain [] t = tt
small_plain (b ∷ w) t = ((omega (arith, first_least b w t), omega (arith, first_most b w t)), small_plain w (rest_small b w t))

-- a filler is below every such byte
pub filler_most : (n : ℕ) → filler n ≤ 46
filler_most n = go (eqb (n % 2) 0)
  where
    go : (b : Bool) → cond b 46 32 ≤ 46
    go true = omega arith
    go false = omega arith

-- two numbers decide, or what follows them
module _ (x y : ℕ) (o : Ordering) where
  pub number_less : x < y → by_number x y o ≡ Less
  number_less h = simp (lt-ltb x y h)

  pub number_more : y < x → by_number x y o ≡ Greater
  number_more h = let l : y ≤ x = omega arith in simp (le-ltb x y l, lt-ltb y x h)

  number_same : x ≡ y → by_number x y o ≡ o
  number_same e = let h : y ≤ x = omega arith in let l : x ≤ y = omega arith in simp (le-ltb x y h, le-ltb y x l)

-- bytes behind two numbers decide where those are the same
bytes_behind : (u v b c : ℕ) (o : Ordering) → b < 256 → c < 256 → by_number u v (by_number b c o) ≡ by_number (u * 256 + b) (v * 256 + c) o
bytes_behind u v b c o hb hc = go (tri u v) (tri b c)
  where
    go : Tri u v → Tri b c → by_number u v (by_number b c o) ≡ by_number (u * 256 + b) (v * 256 + c) o
    go (below l) k = number_less u v (by_number b c o) l ∙ sym (number_less (u * 256 + b) (v * 256 + c) o (omega arith))
    go (above l) k = number_more u v (by_number b c o) l ∙ sym (number_more (u * 256 + b) (v * 256 + c) o (omega arith))
    go (equal e) (below k) =
        number_same u v (by_number b c o) e ∙ number_less b c o k ∙ sym (number_less (u * 256 + b) (v * 256 + c) o (omega arith))
    go (equal e) (equal k) =
        number_same u v (by_number b c o) e ∙ number_same b c o k ∙ sym (number_same (u * 256 + b) (v * 256 + c) o (omega arith))
    go (equal e) (above k) =
        number_same u v (by_number b c o) e ∙ number_more b c o k ∙ sym (number_more (u * 256 + b) (v * 256 + c) o (omega arith))

-- byte order of two words' first n bytes, and what follows them
abbrev up_to : ℕ → List ℕ → List ℕ → Ordering → Ordering
up_to zero a w o = o
up_to (suc n) [] [] o = by_number (filler n) (filler n) (up_to n [] [] o)
up_to (suc n) [] (y ∷ ys) o = by_number (filler n) y (up_to n [] ys o)
up_to (suc n) (x ∷ xs) [] o = by_number x (filler n) (up_to n xs [] o)
up_to (suc n) (x ∷ xs) (y ∷ ys) o = by_number x y (up_to n xs ys o)

-- it is the order of the numbers that they say, behind any two numbers
by_numbers : (n : ℕ) (a w : List ℕ) → Plain a → Plain w → (u v : ℕ) (o : Ordering)
    → by_number u v (up_to n a w o) ≡ by_number (bytes_from u (fixed n a)) (bytes_from v (fixed n w)) o
by_numbers zero a w s t u v o = refl
by_numbers (suc n) [] [] s t u v o =
    let f = filler_most n in
    bytes_behind u v (filler n) (filler n) (up_to n [] [] o) (omega arith) (omega arith)
    ∙ by_numbers n [] [] s t (u * 256 + filler n) (v * 256 + filler n) o
by_numbers (suc n) [] (y ∷ ys) s t u v o =
    let f = filler_most n in
    bytes_behind u v (filler n) y (up_to n [] ys o) (omega arith) t.0.1
    ∙ by_numbers n [] ys s t.1 (u * 256 + filler n) (v * 256 + y) o
by_numbers (suc n) (x ∷ xs) [] s t u v o =
    let f = filler_most n in
    bytes_behind u v x (filler n) (up_to n xs [] o) s.0.1 (omega arith)
    ∙ by_numbers n xs [] s.1 t (u * 256 + x) (v * 256 + filler n) o
by_numbers (suc n) (x ∷ xs) (y ∷ ys) s t u v o =
    bytes_behind u v x y (up_to n xs ys o) s.0.1 t.0.1
    ∙ by_numbers n xs ys s.1 t.1 (u * 256 + x) (v * 256 + y) o

-- two words that have both ended are the same
ended_same : (n : ℕ) → up_to n [] [] Equal ≡ Equal
ended_same zero = refl
ended_same (suc n) = number_same (filler n) (filler n) (up_to n [] [] Equal) refl ∙ ended_same n

-- a word that has ended comes before one that has not
module _ (n : ℕ) (y : ℕ) (h : 46 < y) (o : Ordering) where
  ended_less : by_number (filler n) y o ≡ Less
  ended_less = number_less (filler n) y o (omega (arith, filler_most n))

  ended_more : by_number y (filler n) o ≡ Greater
  ended_more = number_more y (filler n) o (omega (arith, filler_most n))

-- the first n bytes decide, or the rests of both words
ordered_first : (n : ℕ) (a w : List ℕ) → Plain a → Plain w → ordered a w ≡ up_to n a w (ordered (drop n a) (drop n w))
ordered_first zero a w s t = refl
ordered_first (suc n) [] [] s t = sym (number_same (filler n) (filler n) (up_to n [] [] Equal) refl ∙ ended_same n)
ordered_first (suc n) [] (y ∷ ys) s t = sym (ended_less n y t.0.0 (up_to n [] ys (ordered [] (drop n ys))))
ordered_first (suc n) (x ∷ xs) [] s t = sym (ended_more n x s.0.0 (up_to n xs [] (ordered (drop n xs) [])))
ordered_first (suc n) (x ∷ xs) (y ∷ ys) s t = ap (by_number x y) (ordered_first n xs ys s.1 t.1)

-- of a word that has fewer than n bytes they decide alone
ordered_all : (n : ℕ) (a w : List ℕ) → Plain a → Plain w → length a < n → ordered a w ≡ up_to n a w Equal
ordered_all zero a w s t h = absurd (not-suc-le-zero h)
ordered_all (suc n) [] [] s t h = sym (number_same (filler n) (filler n) (up_to n [] [] Equal) refl ∙ ended_same n)
ordered_all (suc n) [] (y ∷ ys) s t h = sym (ended_less n y t.0.0 (up_to n [] ys Equal))
ordered_all (suc n) (x ∷ xs) [] s t h = sym (ended_more n x s.0.0 (up_to n xs [] Equal))
ordered_all (suc n) (x ∷ xs) (y ∷ ys) s t h =
    ap (by_number x y) (ordered_all n xs ys s.1 t.1 (le_of_suc-le-suc h))

-- the order of a word of at most 11 bytes and any word, by the two numbers of both
key_ordered : (a w : List ℕ) → Plain a → Plain w → length a < 12
    → ordered a w ≡ by_key a (head_of w) (tail_of w)
unfolding head_of tail_of
key_ordered a w s t h =
    let sa = plain_drop 8 a s in
    let tw = plain_drop 8 w t in
    let rest = ordered (drop 8 a) (drop 8 w) in
    let tails : rest ≡ by_number (tail_of a) (tail_of w) Equal =
    ordered_all 4 (drop 8 a) (drop 8 w) sa tw (omega (arith, length-drop 8 a)) ∙ by_numbers 4 (drop 8 a) (drop 8 w) sa tw 0 0 Equal in
    ordered_first 8 a w s t ∙ by_numbers 8 a w s t 0 0 rest ∙ ap (by_number (head_of a) (head_of w)) tails

-- a word of small letters is stood for by its own two numbers
pub letters_stand : (w : List ℕ) → T (small w) → Stands (head_of w) (tail_of w) w
letters_stand w t = record { orders = λ a s h. key_ordered a w (small_plain a s) (small_plain w t) h }

-- bytes as they are compared
compared_plain : (w : List ℕ) → Plain (map compared_of w)
compared_plain [] = tt
compared_plain (b ∷ w) = ((omega arith, omega arith), compared_plain w)

-- have the order of the bytes themselves with letters
compared_ordered : (a w : List ℕ) → T (small a) → ordered a w ≡ ordered a (map compared_of w)
compared_ordered [] [] s = refl
compared_ordered [] (y ∷ ys) s = refl
compared_ordered (x ∷ xs) [] s = refl
compared_ordered (x ∷ xs) (y ∷ ys) s = go (tri x y) (compared_ordered xs ys (rest_small x xs s))
  where
    rest : Ordering
    rest = ordered xs (map compared_of ys)

    go : Tri x y → ordered xs ys ≡ rest → by_number x y (ordered xs ys) ≡ by_number x (compared_of y) rest
    go (below l) rests = let h = first_most x xs s in number_less x y (ordered xs ys) l ∙ sym (number_less x (compared_of y) rest (omega arith))
    go (above l) rests = let h = first_least x xs s in number_more x y (ordered xs ys) l ∙ sym (number_more x (compared_of y) rest (omega arith))
    go (equal e) rests =
        let least = first_least x xs s in
        let most = first_most x xs s in
        number_same x y (ordered xs ys) e ∙ rests ∙ sym (number_same x (compared_of y) rest (omega arith))

-- so a word of any bytes is stood for by the two numbers of its bytes as they are compared
pub bytes_stand : (w : List ℕ) → Stands (head_of (map compared_of w)) (tail_of (map compared_of w)) w
bytes_stand w = record {
  orders = λ a s h.
      compared_ordered a w s ∙ key_ordered a (map compared_of w) (small_plain a s) (compared_plain w) h;
}
