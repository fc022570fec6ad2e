-- Byte order: it turns round, is transitive, and only equal lists are the same. Assumes nothing.
use mathlib.Core.Path.{◌≡◌, refl, sym, ap, ◌∙◌}
use mathlib.Core.Bool.{Bool, true, false, not, cond}
use mathlib.Core.List.{List, [], ◌∷◌}
use Prim.Native.Nat.{ℕ, suc, ◌≤◌, ◌<◌, zero-le, suc-le-suc}
use native.Mathlib.Omega.{arith}
use lib.Dec.{T, T_not, eqb, eqb_refl}
use borrow.Author.Tests.{lt-ltb, le-ltb}
use Rattle.digits.proofs.Order.{Tri, below, equal, above, tri}
use Rattle.std.specs.declared.cmp.Ordering.{Ordering}
use Rattle.std.specs.declared.cmp.Ordering.TheVariants.{Less, Equal, Greater}
use Rattle.lexer.specs.Words.{ordered}

-- two counts, where the second counts all that the first does
pub counted : (t u : Bool) (n m : ℕ) → (t ≡ true → u ≡ true) → n ≤ m → cond t (suc n) 0 ≤ cond u (suc m) 0
counted true u n m i h = rw (i refl) (suc-le-suc h)
counted false u n m i h = zero-le

-- Less, Equal and Greater by a number
abbrev rank : Ordering → ℕ
rank Less = 0
rank Equal = 1
rank Greater = 2

-- no order is two of the three
pub clash : {A : Type 0} {o p q : Ordering} → o ≡ p → o ≡ q → T (not (eqb (rank p) (rank q))) → A
clash {p = p} {q = q} e f t = absurd (T_not (eqb (rank p) (rank q)) t (rw (sym e ∙ f) (eqb_refl (rank q))))

-- the first bytes decide, or what follows them
module _ (x y : ℕ) (xs ys : List ℕ) where
  head_less : x < y → ordered (x ∷ xs) (y ∷ ys) ≡ Less
  head_less h = simp (lt-ltb x y h)

  head_more : y < x → ordered (x ∷ xs) (y ∷ ys) ≡ Greater
  head_more h = let l : y ≤ x = omega arith in simp (le-ltb x y l, lt-ltb y x h)

  head_same : x ≡ y → ordered (x ∷ xs) (y ∷ ys) ≡ ordered xs ys
  head_same e = let h : y ≤ x = omega arith in let l : x ≤ y = omega arith in simp (le-ltb x y h, le-ltb y x l)

pub same_equal : (a b : List ℕ) → ordered a b ≡ Equal → a ≡ b
same_equal [] [] h = refl
same_equal [] (y ∷ ys) h = clash refl h tt
same_equal (x ∷ xs) [] h = clash refl h tt
same_equal (x ∷ xs) (y ∷ ys) h = go (tri x y) (same_equal xs ys)
  where
    go : Tri x y → (ordered xs ys ≡ Equal → xs ≡ ys) → x ∷ xs ≡ y ∷ ys
    go (below l) rests = clash (head_less x y xs ys l) h tt
    go (equal e) rests = let t : xs ≡ ys = rests (sym (head_same x y xs ys e) ∙ h) in cc
    go (above l) rests = clash (head_more x y xs ys l) h tt

-- the order of two words the other way round
abbrev turned : Ordering → Ordering
turned Less = Greater
turned Equal = Equal
turned Greater = Less

ordered_turned : (a b : List ℕ) → ordered b a ≡ turned (ordered a b)
ordered_turned [] [] = refl
ordered_turned [] (y ∷ ys) = refl
ordered_turned (x ∷ xs) [] = refl
ordered_turned (x ∷ xs) (y ∷ ys) = go (tri x y) (ordered_turned xs ys)
  where
    go : Tri x y → ordered ys xs ≡ turned (ordered xs ys) → ordered (y ∷ ys) (x ∷ xs) ≡ turned (ordered (x ∷ xs) (y ∷ ys))
    go (below l) rests = head_more y x ys xs l ∙ sym (ap turned (head_less x y xs ys l))
    go (equal e) rests = head_same y x ys xs (sym e) ∙ rests ∙ sym (ap turned (head_same x y xs ys e))
    go (above l) rests = head_less y x ys xs l ∙ sym (ap turned (head_more x y xs ys l))

pub more_less : (a b : List ℕ) → ordered a b ≡ Greater → ordered b a ≡ Less
more_less a b h = ordered_turned a b ∙ ap turned h

pub less_more : (a b : List ℕ) → ordered a b ≡ Less → ordered b a ≡ Greater
less_more a b h = ordered_turned a b ∙ ap turned h

pub less_trans : (a b c : List ℕ) → ordered a b ≡ Less → ordered b c ≡ Less → ordered a c ≡ Less
less_trans [] [] c h l = l
less_trans [] (y ∷ ys) [] h l = clash l refl tt
less_trans [] (y ∷ ys) (z ∷ zs) h l = refl
less_trans (x ∷ xs) [] c h l = clash h refl tt
less_trans (x ∷ xs) (y ∷ ys) [] h l = clash l refl tt
less_trans (x ∷ xs) (y ∷ ys) (z ∷ zs) h l = go (tri x y) (tri y z) (less_trans xs ys zs)
  where
    go : Tri x y → Tri y z → (ordered xs ys ≡ Less → ordered ys zs ≡ Less → ordered xs zs ≡ Less) → ordered (x ∷ xs) (z ∷ zs) ≡ Less
    go (below p) (below q) rests = head_less x z xs zs (omega arith)
    go (below p) (equal q) rests = head_less x z xs zs (omega arith)
    go (below p) (above q) rests = clash l (head_more y z ys zs q) tt
    go (equal p) (below q) rests = head_less x z xs zs (omega arith)
    go (equal p) (equal q) rests =
        head_same x z xs zs (p ∙ q) ∙ rests (sym (head_same x y xs ys p) ∙ h) (sym (head_same y z ys zs q) ∙ l)
    go (equal p) (above q) rests = clash l (head_more y z ys zs q) tt
    go (above p) t rests = clash h (head_more x y xs ys p) tt
