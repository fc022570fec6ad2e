-- A part of a list, and where a byte first stands in one. Assumes nothing.
use Rattle.std.specs.Prelude.{ℕ, cond, List, [], ◌∷◌, eqb, take, drop}
use Prim.Native.Nat.{suc}

-- the numbers from place a up to place e
unfoldable pub slice : ℕ → ℕ → List ℕ → List ℕ
slice a e s = drop a (take e s)

-- the place of the first b, the list's length where there is none
unfoldable pub index_of : ℕ → List ℕ → ℕ
index_of b [] = 0
index_of b (x ∷ xs) = cond (eqb x b) 0 (suc (index_of b xs))
