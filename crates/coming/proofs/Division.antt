-- Rounding up, a step on.
use mathlib.Core.Path.{◌≡◌, refl}
use mathlib.Core.Bool.{Bool, true, false}
use mathlib.Core.Logic.{⊎_elim}
use Prim.Native.Nat.{ℕ, zero, suc, ◌+◌, ◌/◌, ◌%◌, ◌≤◌}
use native.Mathlib.Nat.{div-add-mod, mod-lt}
use native.Mathlib.Omega.{arith}
use borrow.Author.Tests.{eqb-false}
use Rattle.digits.proofs.Order.{le-or_lt}
use Rattle.repeats.specs.Firsts.{up}
use Rattle.repeats.specs.Held.{one}
use Rattle.repeats.specs.Occurrences.{divides}
use Rattle.repeats.proofs.Division.{divided, up_is}
use Rattle.repeats.proofs.Held.{one-most}

-- the next number is rounded up to one more exactly where i divides
pub up_step : (i n : ℕ) → 1 ≤ i → up i (suc n) ≡ up i n + one (divides i n)
up_step i n h = go (divides i n) refl
  where
    go : (t : Bool) → divides i n ≡ t → up i (suc n) ≡ up i n + one t
    go true e =
        let a = divided i n e in
        rw (up_is i n (n / i) (omega arith) (omega arith), up_is i (suc n) (n / i + 1) (omega arith) (omega arith))
    go false e =
        let a = div-add-mod n i in
        let b = mod-lt n h in
        let c : 1 ≤ n % i = ⊎_elim (λ l. l) (λ l. absurd (eqb-false (n % i) 0 e (omega arith))) (le-or_lt 1 (n % i)) in
        rw (up_is i n (n / i + 1) (omega arith) (omega arith), up_is i (suc n) (n / i + 1) (omega arith) (omega arith)) (omega arith)

-- what i divides is a multiple that is rounded up to itself
pub up_divided : (i n : ℕ) → 1 ≤ i → divides i n ≡ true → up i n ≡ n / i
up_divided i n h e = let a = divided i n e in up_is i n (n / i) (omega arith) (omega arith)

-- a number is rounded up to no more than itself
up_most : (i n : ℕ) → 1 ≤ i → up i n ≤ n
up_most i zero h = omega (arith, up_is i 0 0 (omega arith) (omega arith))
up_most i (suc n) h = rw (up_step i n h) (omega (arith, up_most i n h, one-most (divides i n)))

pub up_below : {i n r : ℕ} → 1 ≤ i → r ≡ up i n → r ≤ n
up_below {i} {n} {r} h e = rw e (up_most i n h)
