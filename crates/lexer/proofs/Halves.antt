-- A search by halves in an increasing table finds what a scan finds. Assumes nothing.
use mathlib.Core.Path.{◌≡◌, refl, sym, ap, ◌∙◌}
use mathlib.Core.Bool.{Bool, true, ◌&&◌, cond}
use mathlib.Core.List.{List, [], ◌∷◌}
use Prim.Native.Nat.{ℕ, zero, suc, ◌+◌, ◌≤◌, ◌<◌, zero-le, suc-le-suc}
use native.Mathlib.Nat.{not-suc-le-zero, le_of_suc-le-suc}
use native.Mathlib.Omega.{arith}
use lib.Dec.{T}
use lib.Ieee.Fits.{and_l, and_r}
use lib.ListN.{length}
use Rattle.digits.proofs.Order.{Tri, below, equal, above, tri}
use Rattle.lexer.specs.Words.{Word, ordered, is_same, meaning}
use Rattle.lexer.specs.Table.{is_less, spelling_at, lexeme_at}
use Rattle.std.specs.declared.cmp.Ordering.{Ordering}
use Rattle.std.specs.declared.cmp.Ordering.TheVariants.{Less, Equal, Greater}
use Rattle.std.specs.Prelude.{Option, Some, None}
use Rattle.lexer.proofs.Order.{same_equal, more_less, less_more, less_trans, clash}

-- w comes before the first row
abbrev before : Word → List Word → Bool
before w [] = true
before w (x ∷ xs) = is_less (ordered w.spelling x.spelling)

-- each word comes before the next: in byte order, and without repeats
abbrev pub increasing : List Word → Bool
increasing [] = true
increasing (w ∷ ws) = before w ws && increasing ws

is_less_lem : (o : Ordering) → T (is_less o) → o ≡ Less
is_less_lem Less t = refl
is_less_lem Equal t = absurd t
is_less_lem Greater t = absurd t

-- the first row comes before each later one
first_least : (w : Word) (ws : List Word) → T (before w ws) → T (increasing ws) → (k : ℕ) → k < length ws
    → ordered w.spelling (spelling_at ws k) ≡ Less
first_least w [] b t k h = absurd (not-suc-le-zero h)
first_least w (x ∷ xs) b t zero h = is_less_lem (ordered w.spelling x.spelling) b
first_least w (x ∷ xs) b t (suc k) h =
    less_trans w.spelling x.spelling (spelling_at xs k) (is_less_lem (ordered w.spelling x.spelling) b)
    (first_least x xs (and_l (before x xs) (increasing xs) t) (and_r (before x xs) (increasing xs) t) k (le_of_suc-le-suc h))

-- a row comes before each later one
rising : (ws : List Word) → T (increasing ws) → (i k : ℕ) → i < k → k < length ws → ordered (spelling_at ws i) (spelling_at ws k) ≡ Less
rising [] t i k l h = absurd (not-suc-le-zero h)
rising (w ∷ ws) t i zero l h = absurd (not-suc-le-zero l)
rising (w ∷ ws) t zero (suc k) l h =
    first_least w ws (and_l (before w ws) (increasing ws) t) (and_r (before w ws) (increasing ws) t) k (le_of_suc-le-suc h)
rising (w ∷ ws) t (suc i) (suc k) l h = rising ws (and_r (before w ws) (increasing ws) t) i k (le_of_suc-le-suc l) (le_of_suc-le-suc h)

-- row m beside the word f that is looked up
module _ (ws : List Word) (t : T (increasing ws)) (f : List ℕ) (m : ℕ) (hm : m < length ws) where
  -- row m comes before f: so does each row up to it
  pub all_less : ordered (spelling_at ws m) f ≡ Less → (k : ℕ) → k < m + 1 → ordered (spelling_at ws k) f ≡ Less
  all_less e k h = go (tri k m)
    where
      go : Tri k m → ordered (spelling_at ws k) f ≡ Less
      go (below l) = less_trans (spelling_at ws k) (spelling_at ws m) f (rising ws t k m l hm) e
      go (equal q) = ap (λ (n : ℕ). ordered (spelling_at ws n) f) q ∙ e
      go (above l) = absurd (omega arith)

  -- row m comes after f: so does each row from it on
  pub all_more : ordered (spelling_at ws m) f ≡ Greater → (k : ℕ) → m ≤ k → k < length ws → ordered (spelling_at ws k) f ≡ Greater
  all_more e k h hk = go (tri m k)
    where
      go : Tri m k → ordered (spelling_at ws k) f ≡ Greater
      go (below l) =
          less_more f (spelling_at ws k)
          (less_trans f (spelling_at ws m) (spelling_at ws k) (more_less (spelling_at ws m) f e) (rising ws t m k l hk))
      go (equal q) = ap (λ (n : ℕ). ordered (spelling_at ws n) f) (sym q) ∙ e
      go (above l) = absurd (omega arith)

  -- row m spells f: no row before it does
  pub none_before : ordered (spelling_at ws m) f ≡ Equal → (k : ℕ) → k < m → ordered (spelling_at ws k) f ≡ Equal → ⊥
  none_before e k h d = clash (ap (ordered (spelling_at ws k)) (sym (same_equal (spelling_at ws m) f e)) ∙ rising ws t k m h hm) d tt

-- a row that does not spell f is passed over
passed : (o : Ordering) (a b : Option ℕ) → (o ≡ Equal → ⊥) → cond (is_same o) a b ≡ b
passed Less a b n = refl
passed Equal a b n = absurd (n refl)
passed Greater a b n = refl

-- no row spells f
pub absent : (ws : List Word) (f : List ℕ) → ((k : ℕ) → k < length ws → ordered (spelling_at ws k) f ≡ Equal → ⊥) → meaning ws f ≡ None
absent [] f none = refl
absent (w ∷ ws) f none =
    passed (ordered w.spelling f) (Some w.lexeme) (meaning ws f) (none 0 (suc-le-suc zero-le))
    ∙ absent ws f (λ k h. none (suc k) (suc-le-suc h))

-- row m is the first that spells f
pub present : (ws : List Word) (f : List ℕ) (m : ℕ) → m < length ws → ((k : ℕ) → k < m → ordered (spelling_at ws k) f ≡ Equal → ⊥)
    → ordered (spelling_at ws m) f ≡ Equal → meaning ws f ≡ Some (lexeme_at ws m)
present [] f m h none e = absurd (not-suc-le-zero h)
present (w ∷ ws) f zero h none e = ap (λ (o : Ordering). cond (is_same o) (Some w.lexeme) (meaning ws f)) e
present (w ∷ ws) f (suc m) h none e =
    passed (ordered w.spelling f) (Some w.lexeme) (meaning ws f) (none 0 (suc-le-suc zero-le))
    ∙ present ws f m (le_of_suc-le-suc h) (λ k l. none (suc k) (suc-le-suc l)) e
