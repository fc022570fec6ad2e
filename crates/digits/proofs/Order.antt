-- How two numbers stand to each other. Assumes nothing.
use mathlib.Core.Path.{◌≡◌, refl}
use mathlib.Core.Bool.{Bool, true, false}
use mathlib.Core.Logic.{◌⊎◌, inl, inr}
use Prim.Native.Nat.{ℕ, ◌≤◌, ◌<◌}
use native.Mathlib.Omega.{arith}
use lib.Dec.{ltb}
use borrow.Author.Tests.{ltb-true, ltb-false}

-- one is below the other, or they are equal
pub data Tri (x y : ℕ) : Type 0 where
  below : x < y → Tri x y
  equal : x ≡ y → Tri x y
  above : y < x → Tri x y

-- two numbers by their order
pub tri : (x y : ℕ) → Tri x y
tri x y = go (ltb x y) refl (ltb y x) refl
  where
    go : (b : Bool) → ltb x y ≡ b → (d : Bool) → ltb y x ≡ d → Tri x y
    go true e d f = below (ltb-true x y e)
    go false e true f = above (ltb-true y x f)
    go false e false f = equal (omega (arith, ltb-false x y e, ltb-false y x f))

-- at most y, or above it
pub le-or_lt : (x y : ℕ) → (x ≤ y) ⊎ (y < x)
le-or_lt x y = go (tri x y)
  where
    go : Tri x y → (x ≤ y) ⊎ (y < x)
    go (below l) = inl (omega arith)
    go (equal e) = inl (omega arith)
    go (above l) = inr l
