-- A reader that calls itself on what is left of the lexemes.
use Rattle.std.specs.Prelude.{ℕ, zero, suc, List, length}

-- a reader's step, with what it calls as an argument, in at most n turns, and then nothing
unfoldable pub turns : {A : Type 0} → A → ((List ℕ → A) → List ℕ → A) → ℕ → List ℕ → A
turns nothing step zero l = nothing
turns nothing step (suc n) l = step (turns nothing step n) l

-- the lexemes left fall at each turn, so that one turn more than there are lexemes is enough: `again_is` says so
unfoldable pub again : {A : Type 0} → A → ((List ℕ → A) → List ℕ → A) → List ℕ → A
again nothing step l = turns nothing step (suc (length l)) l
