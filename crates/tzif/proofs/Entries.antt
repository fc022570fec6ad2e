-- A test of n numbers in a row, and of a newline among octets, as tests of lists.
use Prim.Native.Nat.{ℕ, zero, suc, ◌+◌, ◌≤◌, ◌<◌}
use native.Mathlib.Numerals.{add-one}
use native.Mathlib.Omega.{arith}
use mathlib.Core.Path.{◌≡◌, refl, ap, sym, ◌∙◌}
use mathlib.Core.Bool.{Bool, true, and-eq-true_iff}
use mathlib.Core.List.{List, [], ◌∷◌}
use lib.Dec.{eqb}
use Rattle.std.specs.List.{list_any, list_all, range_with_len}
use Rattle.digits.proofs.Order.{Tri, below, equal, above, tri}
use Rattle.tzif.specs.File.{each, has_newline}

-- a test of n numbers as one of their list
pub each_listed : (f : ℕ → Bool) (i n : ℕ) → list_all f (range_with_len i n) ≡ each f i n
each_listed f i zero = refl
each_listed f i (suc n) = rw (add-one i, each_listed f (suc i) n)

-- where all pass, each one does
pub each_at : (f : ℕ → Bool) (i n : ℕ) → each f i n ≡ true → (k : ℕ) → i ≤ k → k < i + n → f k ≡ true
each_at f i zero e k l h = absurd (omega arith)
each_at f i (suc n) e k l h =
    let both = (and-eq-true_iff (f i) (each f (suc i) n)).0 e in
    go both.0 (λ a. each_at f (suc i) n both.1 k (omega arith) (omega arith)) (tri i k)
  where
    go : f i ≡ true → (i < k → f k ≡ true) → Tri i k → f k ≡ true
    go here on (below a) = on a
    go here on (equal a) = ap f (sym a) ∙ here
    go here on (above a) = absurd (omega arith)

-- a newline as a test of each octet
pub newline_listed : (l : List ℕ) → list_any (λ x. eqb x 10) l ≡ has_newline l
newline_listed [] = refl
newline_listed (x ∷ xs) = rw (newline_listed xs)
