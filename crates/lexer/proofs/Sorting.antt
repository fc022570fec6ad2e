-- Sorting a word list changes no word's meaning. Assumes nothing.
use mathlib.Core.Path.{◌≡◌, refl, ap, ◌∙◌}
use mathlib.Core.Bool.{Bool, true, false, cond, false≢true}
use mathlib.Core.List.{List, [], ◌∷◌}
use Prim.Native.Nat.{ℕ}
use Rattle.lexer.specs.Words.{Word, ordered, is_same, meaning}
use Rattle.lexer.specs.Table.{is_less, insert, sorted}
use Rattle.std.specs.declared.cmp.Ordering.{Ordering}
use Rattle.std.specs.declared.cmp.Ordering.TheVariants.{Less, Equal, Greater}
use Rattle.std.specs.Prelude.{Option, Some}
use Rattle.lexer.proofs.Order.{same_equal}

is_same_lem : (o : Ordering) → is_same o ≡ true → o ≡ Equal
is_same_lem Less e = absurd (false≢true e)
is_same_lem Equal e = refl
is_same_lem Greater e = absurd (false≢true e)

not-both : (o : Ordering) → is_less o ≡ true → is_same o ≡ true → ⊥
not-both Less l s = false≢true s
not-both Equal l s = false≢true l
not-both Greater l s = false≢true l

-- a row that is strictly less never spells the same word
never_both : (a b w : List ℕ) → is_less (ordered a b) ≡ true → is_same (ordered a w) ≡ true → is_same (ordered b w) ≡ true → ⊥
never_both a b w l p q = not-both (ordered a w) (rw (← (same_equal b w (is_same_lem (ordered b w) q))) l) p

-- two tests of which one fails may change places
exchanged : (a b : Bool) (x y z : Option ℕ) → (a ≡ true → b ≡ true → ⊥) → cond a x (cond b y z) ≡ cond b y (cond a x z)
exchanged true true x y z never = absurd (never refl refl)
exchanged true false x y z never = refl
exchanged false b x y z never = refl

meaning_insert : (x : Word) (ws : List Word) (w : List ℕ) → meaning (insert x ws) w ≡ meaning (x ∷ ws) w
meaning_insert x [] w = refl
meaning_insert x (y ∷ ys) w = go (is_less (ordered y.spelling x.spelling)) refl (meaning_insert x ys w)
  where
    go : (b : Bool) → is_less (ordered y.spelling x.spelling) ≡ b → meaning (insert x ys) w ≡ meaning (x ∷ ys) w
        → meaning (cond b (y ∷ insert x ys) (x ∷ y ∷ ys)) w ≡ meaning (x ∷ y ∷ ys) w
    go true less later =
        ap (cond (is_same (ordered y.spelling w)) (Some y.lexeme)) later
        ∙ exchanged (is_same (ordered y.spelling w)) (is_same (ordered x.spelling w))
        (Some y.lexeme) (Some x.lexeme) (meaning ys w)
        (never_both y.spelling x.spelling w less)
    go false not-less later = refl

pub meaning_sorted : (ws : List Word) (w : List ℕ) → meaning (sorted ws) w ≡ meaning ws w
meaning_sorted [] w = refl
meaning_sorted (x ∷ ws) w =
    meaning_insert x (sorted ws) w ∙ ap (cond (is_same (ordered x.spelling w)) (Some x.lexeme)) (meaning_sorted ws w)
