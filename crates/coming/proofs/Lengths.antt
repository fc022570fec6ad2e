-- A closed form that grows by one at each number that holds is the length of the list of them.
use mathlib.Core.Path.{◌≡◌, refl}
use mathlib.Core.Bool.{Bool, true, false, ◌&&◌}
use lib.ListN.{length}
use Prim.Native.Nat.{ℕ, zero, suc, ◌+◌, ◌≤◌, ◌<◌}
use native.Mathlib.Nat.{add-zero}
use native.Mathlib.Omega.{arith}
use Rattle.repeats.specs.Held.{held, one}
use Rattle.repeats.proofs.Held.{keep_length}
use Rattle.coming.specs.Counts.{count}

-- a closed form that adds one for each that holds is the length
pub length-by : (P : ℕ → Bool) (c : ℕ → ℕ) (b k : ℕ) → ((n : ℕ) → b ≤ n → n < b + k → c (suc n) ≡ c n + one (P n)) →
    c b + length (held P b k) ≡ c (b + k)
unfolding held
length-by P c b zero f = rw (add-zero b) (omega arith)
length-by P c b (suc k) f =
    let e : b + suc k ≡ suc b + k = omega arith in
    let step = f b (omega arith) (omega arith) in
    let rest = length-by P c (suc b) k (λ n p q. f n (omega arith) (omega arith)) in
    rw (e, keep_length) (omega arith)

-- a test that is joined with one that holds counts as before
pub and-true : (a : Bool) → one (a && true) ≡ one a
and-true true = refl
and-true false = refl

-- and with one that does not, nothing
pub and-false : (a : Bool) → one (a && false) ≡ 0
and-false true = refl
and-false false = refl

-- counting one more
pub count_step : (P : ℕ → Bool) (k : ℕ) → count P (suc k) ≡ count P k + one (P k)
unfolding count
count_step P k = refl

pub count_zero : (P : ℕ → Bool) → count P 0 ≡ 0
unfolding count
count_zero P = refl
