-- The turns of a reader that calls itself: they are never too few, and what each turn keeps the reader keeps.
use Prim.Native.Nat.{ℕ, zero, suc, ◌<◌}
use native.Mathlib.Omega.{arith}
use mathlib.Core.Path.{◌≡◌}
use mathlib.Core.List.{List}
use lib.ListN.{length}
use Rattle.numbers.specs.Again.{turns, again}

module _ {A : Type 0} (nothing : A) (step : (List ℕ → A) → List ℕ → A) where
  module _ (falls : (D E : List ℕ → A) (l : List ℕ) → ((m : List ℕ) → length m < length l → D m ≡ E m) → step D l ≡ step E l) where
    -- more turns than lexemes are all alike
    enough : (f g : ℕ) (l : List ℕ) → length l < f → length l < g → turns nothing step f l ≡ turns nothing step g l
    unfolding turns
    enough zero g l a b = absurd (omega arith)
    enough (suc f) zero l a b = absurd (omega arith)
    enough (suc f) (suc g) l a b = falls (turns nothing step f) (turns nothing step g) l (λ m h. enough f g m (omega arith) (omega arith))

    -- a reader whose step calls it only on what is shorter is what its step says
    pub again_is : (l : List ℕ) → again nothing step l ≡ step (again nothing step) l
    unfolding turns again
    again_is l = falls (turns nothing step (length l)) (again nothing step) l (λ m h. enough (length l) (suc (length m)) m h (omega arith))

  module _ (P : List ℕ → A → Type 0) (none : (l : List ℕ) → P l nothing) (kept : (D : List ℕ → A) → ((m : List ℕ) → P m (D m)) → (l : List ℕ) → P l (step D l)) where
    turns_keep : (n : ℕ) (l : List ℕ) → P l (turns nothing step n l)
    unfolding turns
    turns_keep zero l = none l
    turns_keep (suc n) l = kept (turns nothing step n) (turns_keep n) l

    -- what holds of nothing and is kept by a step holds of the reader
    pub again_keeps : (l : List ℕ) → P l (again nothing step l)
    unfolding again
    again_keeps l = turns_keep (suc (length l)) l
