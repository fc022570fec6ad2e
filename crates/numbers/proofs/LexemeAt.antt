-- Laws of reading a list at a place: what a test that held says of the place and of the lexeme there.
use mathlib.Core.Path.{◌≡◌, refl, sym, ◌∙◌}
use mathlib.Core.Bool.{Bool, true, false, ◌&&◌}
use mathlib.Core.List.{List}
use Prim.Native.Nat.{ℕ, ◌+◌, ◌≤◌, ◌<◌, max}
use native.Mathlib.Omega.{arith}
use lib.Dec.{leb, ltb, eqb}
use lib.ListN.{length, get_or}
use borrow.Author.Tests.{leb-true, ltb-true}
use Rattle.lexer.specs.Lexemes.{NUM, value_of}
use Rattle.numbers.specs.Slices.{is_at, one_if, within}

-- both parts of an `and`
pub both : (p q : Bool) → p && q ≡ true → (p ≡ true) × (q ≡ true)
both true q e = (refl, e)
both false true e = (e, refl)
both false false e = (e, e)

-- a test takes at most one lexeme
pub one-most : (b : Bool) → one_if b ≤ 1
one-most true = omega arith
one-most false = omega arith

-- what a test `within` that held says of the number
pub within_bounds : (lo x hi : ℕ) {r : Bool} → r ≡ within lo x hi → r ≡ true → (lo ≤ x) × (x ≤ hi)
unfolding within
within_bounds lo x hi e t =
    let h = both (leb lo x) (leb x hi) (sym e ∙ t) in
    (leb-true lo x h.0, leb-true x hi h.1)

-- what the test of a literal that held says of the lexeme
pub literal_bounds : (lo x hi : ℕ) → leb NUM x && within lo (value_of x) hi ≡ true → (NUM ≤ x) × (lo ≤ value_of x) × (value_of x ≤ hi)
literal_bounds lo x hi e =
    let h = both (leb NUM x) (within lo (value_of x) hi) e in
    let b = within_bounds lo (value_of x) hi refl h.1 in
    (leb-true NUM x h.0, b.0, b.1)

-- a place where a test of the length held is there
reach : (p q : Bool) (i n : ℕ) → ltb i n ≡ p → i + one_if (p && q) ≤ max i n
reach true true i n e = let h = ltb-true i n e in omega arith
reach true false i n e = omega arith
reach false q i n e = omega arith

-- a lexeme that is taken where it stands is there
pub at_most : (l : List ℕ) (i x : ℕ) → i + one_if (is_at l i x) ≤ max i (length l)
unfolding is_at
at_most l i x = reach (ltb i (length l)) (eqb (get_or l i 0) x) i (length l) refl

-- a test `is_at` that held says that the lexeme is there
pub there : {r : Bool} {i n : ℕ} → i + one_if r ≤ max i n → r ≡ true → i < n
there h e = let g = rw e at h in omega arith
