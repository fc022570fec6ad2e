-- Where a byte first stands, by places. Assumes nothing.
use Prim.Native.Nat.{ℕ, zero, suc, ◌+◌, ◌-◌, ◌≤◌, ◌<◌}
use native.Mathlib.Omega.{arith}
use mathlib.Core.Path.{◌≡◌, sym, ap}
use mathlib.Core.List.{List, [], ◌∷◌}
use borrow.Author.Tests.{eq-eqb, ne_eqb}
use lib.ListN.{length, get_or, take, drop}
use Rattle.std.proofs.lemmas.List.{drop-take}
use Rattle.scan.specs.Bytes.{slice, index_of}

-- at the place that is no such byte's before it, and is one's or the list's end
pub index_is :
    (b : ℕ) (l : List ℕ) (i : ℕ) → i ≤ length l → ((k : ℕ) → k < i → get_or l k 0 ≡ b → ⊥) → (i < length l → get_or l i 0 ≡ b) →
    index_of b l ≡ i
unfolding index_of
index_is b [] i h before here = omega arith
index_is b (x ∷ l) zero h before here = rw (eq-eqb x b (here (omega arith)))
index_is b (x ∷ l) (suc i) h before here =
    rw (ne_eqb x b (before 0 (omega arith)))
    (ap suc (index_is b l i (omega arith) (λ k less. before (suc k) (omega arith)) (λ less. here (omega arith))))

-- a part is as many numbers as lie between its places, from the first on
pub part : (a e : ℕ) (s : List ℕ) → a ≤ e → take (e - a) (drop a s) ≡ slice a e s
unfolding slice
part a e s h =
    let cut = drop-take a (e - a) s in
    let whole : a + (e - a) ≡ e = omega arith in
    sym (rw whole at cut)
