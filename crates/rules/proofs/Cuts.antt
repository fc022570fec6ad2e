-- A text cut at a mark: its pieces are the parts that the library splits it into. Assumes nothing.
use Prim.Native.Nat.{ℕ, ◌<◌}
use mathlib.Core.Path.{◌≡◌, refl, ap, subst}
use mathlib.Core.Bool.{Bool, true, false, cond}
use mathlib.Core.List.{List, [], ◌∷◌}
use lib.Dec.{eqb}
use lib.ListN.{length, get_or}
use denote.Ref.{Bor}
use denote.Param.Members.{Mut}
use Rattle.std.proofs.Common.{Option, Some, None}
use Rattle.std.specs.Fn.{CalledAt}
use Rattle.std.specs.Iterator.{Yields}
use Rattle.std.specs.List.{slice_split, onto_first}
use Rattle.std.specs.Slice.Iter.{split_rest, split_done, split_callee, split_steps}
use Rattle.std.specs.declared.slice.Split.{Split}
use Rattle.std.proofs.lemmas.Iterator.Consumers.{YieldsList-turn, YieldsList-end}
use Rattle.std.proofs.lemmas.Iterator.Splits.{YieldsList-from_slice_split}
use Rattle.rules.specs.Cut.{in_front, pieces}

front_same : (b : ℕ) (ps : List (List ℕ)) → onto_first b ps ≡ in_front b ps
front_same b [] = refl
front_same b (p ∷ ps) = refl

pub pieces_split : (k : ℕ) (s : List ℕ) → slice_split (λ b. eqb b k) s ≡ pieces k s
pieces_split k [] = refl
pieces_split k (b ∷ s) = rw (pieces_split k s, front_same b (pieces k s))

-- a text has a first piece
pub first_piece : (k : ℕ) (s : List ℕ) → (p : List ℕ) × ((rest : List (List ℕ)) × (pieces k s ≡ (p ∷ rest)))
first_piece k [] = ([], ([], refl))
first_piece k (b ∷ s) = go (eqb b k) (first_piece k s)
  where
    go : (t : Bool) → (p : List ℕ) × ((rest : List (List ℕ)) × (pieces k s ≡ (p ∷ rest)))
        → (p : List ℕ) × ((rest : List (List ℕ)) × (cond t ([] ∷ pieces k s) (in_front b (pieces k s)) ≡ (p ∷ rest)))
    go true h = ([], (pieces k s, refl))
    go false h = (b ∷ h.0, (h.1.0, ap (in_front b) h.1.1))

-- a loop over the pieces of a text, which has been given xs
module _ {F : Type 0} (g : Mut F (Bor ℕ × Unit {0}) Bool) (k : ℕ) (s : List ℕ) (start t u : Split ℕ F) (xs : List (Bor (List ℕ))) {r : Option (Bor (List ℕ))} (given : Yields (split_steps g) start xs t) (step : split_steps g t r u) where
  -- is given the next one
  pub next_piece : {p : Bor (List ℕ)} → r ≡ Some p → split_rest start ≡ s → split_done start ≡ false
      → ((x : ℕ) (b : Bool) (f : F) → CalledAt g (split_callee start) x b f → (f ≡ split_callee start) × (b ≡ eqb x k))
      → (length xs < length (pieces k s)) × (p.now ≡ get_or (pieces k s) (length xs) p.now)
  next_piece {p} is rest done tests = rw (← pieces_split k s) (YieldsList-turn (YieldsList-from_slice_split g (λ b. eqb b k) s rest done refl tests) xs t given r u p is step)

  -- and ends behind the last
  pub last_piece : r ≡ None → split_rest start ≡ s → split_done start ≡ false
      → ((x : ℕ) (b : Bool) (f : F) → CalledAt g (split_callee start) x b f → (f ≡ split_callee start) × (b ≡ eqb x k))
      → length xs ≡ length (pieces k s)
  last_piece is rest done tests = rw (← pieces_split k s) (YieldsList-end (YieldsList-from_slice_split g (λ b. eqb b k) s rest done refl tests) xs t given r u is step).1

-- what was given before the loop stands in front
pub behind_first : {F : Type 0} (g : Mut F (Bor ℕ × Unit {0}) Bool) (start i j t : Split ℕ F) (xs : List (Bor (List ℕ))) (p : Bor (List ℕ))
    → split_steps g start (Some p) i → j ≡ i → Yields (split_steps g) j xs t → Yields (split_steps g) start (p ∷ xs) t
behind_first g start i j t xs p first same given = (i, first, subst (λ k. Yields (split_steps g) k xs t) same given)
