-- Rounding up: its bounds, its steps, and that nothing between divides.
use mathlib.Core.Path.{◌≡◌, refl, sym}
use mathlib.Core.Bool.{Bool, true, false}
use mathlib.Core.Logic.{⊎_elim}
use Prim.Native.Nat.{ℕ, suc, ◌+◌, ◌-◌, ◌*◌, ◌/◌, ◌%◌, ◌≤◌, ◌<◌}
use native.Mathlib.Nat.{div-eq_of_lt-le, div-add-mod, mod-lt, mul-mod_right, mul-le-mul_left}
use native.Mathlib.Omega.{arith}
use borrow.Author.Tests.{eq-eqb, eqb-true}
use Rattle.std.specs.Int.{div_ceil}
use Rattle.std.proofs.lemmas.Grind.{div_ceil_times}
use Rattle.digits.proofs.Order.{Tri, below, equal, above, tri, le-or_lt}
use Rattle.repeats.specs.Firsts.{up}
use Rattle.repeats.specs.Occurrences.{divides}

-- what holds on each side of a number, and at it, holds
pub by_order : {A : Type 0} (a b : ℕ) → (a < b → A) → (a ≡ b → A) → (b < a → A) → A
by_order {A} a b f g h = go (tri a b)
  where
    go : Tri a b → A
    go (below l) = f l
    go (equal e) = g e
    go (above l) = h l

-- what rounding up is
pub up_is : (i n q : ℕ) → n ≤ i * q → i * q < n + i → up i n ≡ q
unfolding up
up_is i n q h g = div-eq_of_lt-le i (omega arith) (omega arith)

-- its bounds
pub record Up (i n q : ℕ) : Type 0 where
  pub low : n ≤ i * q
  pub high : i * q < n + i

pub up_bounds : (i n : ℕ) → 1 ≤ i → Up i n (up i n)
unfolding up
up_bounds i n h =
    let a = div-add-mod (n + (i - 1)) i in
    let b = mod-lt (n + (i - 1)) h in
    record { low = omega arith; high = omega arith }

-- the library's rounding up is this one
pub ceil_up : (i n : ℕ) → 1 ≤ i → div_ceil n i ≡ up i n
ceil_up i n h = let c = div_ceil_times n i h in sym (up_is i n (div_ceil n i) (omega arith) (omega arith))

-- a number that i divides, by its quotient
pub divided : (i n : ℕ) → divides i n ≡ true → i * (n / i) ≡ n
divided i n e = let a = div-add-mod n i in let b = eqb-true (n % i) 0 e in omega arith

-- the multiples are divided
pub divides_mul : (i q : ℕ) → divides i (i * q) ≡ true
divides_mul i q = eq-eqb _ _ (mul-mod_right i q)

-- from n up to the multiple above it nothing is divided
pub up_none : (i n k : ℕ) → 1 ≤ i → n ≤ k → k < i * up i n → divides i k ≡ false
up_none i n k h p q = go (divides i k) refl
  where
    go : (t : Bool) → divides i k ≡ t → divides i k ≡ false
    go false e = e
    go true e =
        let a = divided i k e in
        let b = up_bounds i n h in
        absurd (⊎_elim
        (λ l. let c = mul-le-mul_left i l in omega arith)
        (λ (l : suc (k / i) ≤ up i n). let c = mul-le-mul_left i l in omega arith) (le-or_lt (up i n) (k / i)))
