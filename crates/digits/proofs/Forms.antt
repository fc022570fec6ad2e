-- Texts of a form, a byte at a time. Assumes nothing.
use Prim.Native.Nat.{ℕ, zero, suc, ◌<◌}
use Prim.Native.Char.{code}
use native.Mathlib.Nat.{not-suc-le-zero, le_of_suc-le-suc}
use native.Mathlib.Omega.{arith}
use mathlib.Core.Path.{◌≡◌, refl, sym, ap}
use mathlib.Core.Bool.{Bool, true, false, ◌&&◌, and-eq-true_iff}
use mathlib.Core.List.{List, [], ◌∷◌, ◌++◌}
use lib.Dec.{eqb}
use lib.ListN.{length, get_or, take, drop}
use borrow.Author.Tests.{eq-eqb, eqb-true}
use Rattle.digits.specs.Bytes.{capital_of}
use Rattle.digits.specs.Forms.{in_place, of_form}

-- a text of a form is as long as the form
pub form_length : (f s : List ℕ) → of_form f s ≡ true → length s ≡ length f
form_length [] [] h = refl
form_length [] (b ∷ s) h = absurd cc
form_length (x ∷ f) [] h = absurd cc
form_length (x ∷ f) (b ∷ s) h = go (in_place x b) (form_length f s) h
  where
    go : (t : Bool) → (of_form f s ≡ true → length s ≡ length f) → (t && of_form f s) ≡ true → suc (length s) ≡ suc (length f)
    go true shorter e = ap suc (shorter e)
    go false shorter e = absurd cc

-- a text of another length is none
pub form_unlike : (f s : List ℕ) → (length f ≡ length s → ⊥) → of_form f s ≡ false
form_unlike f s h = go (of_form f s) refl
  where
    go : (t : Bool) → of_form f s ≡ t → of_form f s ≡ false
    go true e = absurd (h (sym (form_length f s e)))
    go false e = e

-- a byte of a form fits its own place
pub own_place_lem : (f : ℕ) → in_place f f ≡ true
own_place_lem f = go (eqb f (code "0")) refl
  where
    go : (b : Bool) → eqb f (code "0") ≡ b → in_place f f ≡ true
    go true e = rw (eqb-true f (code "0") e)
    go false e = rw (e, eq-eqb (capital_of f) (capital_of f) refl)

-- each byte of a text of a form is in its place
pub form_at : (f s : List ℕ) → of_form f s ≡ true → (i : ℕ) → i < length f → in_place (get_or f i 0) (get_or s i 0) ≡ true
form_at [] s h i l = absurd (not-suc-le-zero l)
form_at (x ∷ f) [] h i l = absurd cc
form_at (x ∷ f) (b ∷ s) h zero l = ((and-eq-true_iff (in_place x b) (of_form f s)).0 h).0
form_at (x ∷ f) (b ∷ s) h (suc i) l = form_at f s ((and-eq-true_iff (in_place x b) (of_form f s)).0 h).1 i (le_of_suc-le-suc l)

-- a text as long as the form is of it where each byte is in its place
form_placed : (f s : List ℕ) → length f ≡ length s → ((i : ℕ) → i < length f → in_place (get_or f i 0) (get_or s i 0) ≡ true) → of_form f s ≡ true
form_placed [] [] e h = refl
form_placed [] (b ∷ s) e h = absurd (omega arith)
form_placed (x ∷ f) [] e h = absurd (omega arith)
form_placed (x ∷ f) (b ∷ s) e h = rw (h 0 (omega arith)) (form_placed f s (omega arith) (λ i l. h (suc i) (omega arith)))

-- so a test of every place tells
pub form_judged :
    (f s : List ℕ) (r : Bool) → length f ≡ length s →
    (r ≡ true → (i : ℕ) → i < length f → in_place (get_or f i 0) (get_or s i 0) ≡ true) →
    (r ≡ false → (i : ℕ) × (i < length f) × (in_place (get_or f i 0) (get_or s i 0) ≡ false)) → r ≡ of_form f s
form_judged f s true e each some = sym (form_placed f s e (each refl))
form_judged f s false e each some = go (of_form f s) refl (some refl)
  where
    go : (t : Bool) → of_form f s ≡ t → (i : ℕ) × (i < length f) × (in_place (get_or f i 0) (get_or s i 0) ≡ false) → false ≡ of_form f s
    go false e at = sym e
    go true e at = let placed = form_at f s e at.0 at.1 in cc

-- a text behind a text of a form is judged by what is behind the form
pub form_behind : (f s g t : List ℕ) → of_form f s ≡ true → of_form (f ++ g) (s ++ t) ≡ of_form g t
form_behind [] [] g t h = refl
form_behind [] (b ∷ s) g t h = absurd cc
form_behind (x ∷ f) [] g t h = absurd cc
form_behind (x ∷ f) (b ∷ s) g t h =
    let both = (and-eq-true_iff (in_place x b) (of_form f s)).0 h in
    rw both.0 (form_behind f s g t both.1)

-- a text of two forms, one behind the other, is a text of the first and one of the second
pub form_parts :
    (f g s : List ℕ) → of_form (f ++ g) s ≡ true → (of_form f (take (length f) s) ≡ true) × (of_form g (drop (length f) s) ≡ true)
form_parts [] g s h = (refl, h)
form_parts (x ∷ f) g [] h = absurd cc
form_parts (x ∷ f) g (b ∷ s) h =
    let both = (and-eq-true_iff (in_place x b) (of_form (f ++ g) s)).0 h in
    let parts = form_parts f g s both.1 in
    (rw both.0 parts.0, parts.1)
