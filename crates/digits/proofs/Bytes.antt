-- Texts that are the same byte by byte are equal. Assumes nothing.
use Prim.Native.Nat.{ℕ}
use mathlib.Core.Path.{◌≡◌, refl}
use mathlib.Core.Bool.{true, and-eq-true_iff}
use mathlib.Core.List.{List, [], ◌∷◌}
use lib.Dec.{eqb}
use borrow.Author.Tests.{eqb-true}
use Rattle.digits.specs.Bytes.{same}

pub same_true : (s t : List ℕ) → same s t ≡ true → s ≡ t
same_true [] [] h = refl
same_true [] (b ∷ t) h = absurd cc
same_true (a ∷ s) [] h = absurd cc
same_true (a ∷ s) (b ∷ t) h =
    let both = (and-eq-true_iff (eqb a b) (same s t)).0 h in
    rw (eqb-true a b both.0, same_true s t both.1)
