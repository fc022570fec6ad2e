-- A text cut at a mark. Assumes nothing.
use Rattle.std.specs.Prelude.{ℕ, cond, List, [], ◌∷◌, eqb}

-- a byte in front of the first piece
abbrev pub in_front : ℕ → List (List ℕ) → List (List ℕ)
in_front b [] = (b ∷ []) ∷ []
in_front b (p ∷ ps) = (b ∷ p) ∷ ps

-- the pieces between the marks, empty ones too: one more than there are marks
abbrev pub pieces : ℕ → List ℕ → List (List ℕ)
pieces k [] = [] ∷ []
pieces k (b ∷ s) = cond (eqb b k) ([] ∷ pieces k s) (in_front b (pieces k s))
