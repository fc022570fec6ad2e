-- A function's values in order: that all pass a test, or are the same, is one computation. Assumes nothing.
use mathlib.Core.Path.{◌≡◌, refl, sym, ap, ◌∙◌}
use mathlib.Core.Bool.{Bool, true, ◌&&◌, and-eq-true_iff}
use mathlib.Core.List.{List, [], ◌∷◌}
use mathlib.Core.Logic.{⊎_elim}
use Prim.Native.Nat.{ℕ, zero, suc, ◌+◌, ◌-◌, ◌≤◌, ◌<◌}
use native.Mathlib.Nat.{not-suc-le-zero, eq-or-lt_of_le, le_of_suc-le-suc, zero-add, add-zero, add-suc, suc-add}
use native.Mathlib.Omega.{arith}
use lib.ListN.{length, get_or, replicate, get_or-replicate}
use lib.Seq.{ext_get_or}

-- f holds at each number below n
abbrev pub all_below : (ℕ → Bool) → ℕ → Bool
all_below f zero = true
all_below f (suc n) = f n && all_below f n

-- and so at each one of them
pub each_below : (f : ℕ → Bool) (n : ℕ) → all_below f n ≡ true → (k : ℕ) → k < n → f k ≡ true
each_below f zero e k h = absurd (not-suc-le-zero h)
each_below f (suc n) e k h =
    let both = (and-eq-true_iff (f n) (all_below f n)).0 e in
    ⊎_elim (λ p. rw p both.0) (λ l. each_below f n both.1 k l) (eq-or-lt_of_le (le_of_suc-le-suc h))

-- the values at i, i + 1, .., n of them
abbrev pub tabled : (ℕ → ℕ) → ℕ → ℕ → List ℕ
tabled f i zero = []
tabled f i (suc n) = f i ∷ tabled f (suc i) n

-- entry k of the table is the value at i + k
tabled_at : (f : ℕ → ℕ) (n i k : ℕ) → k < n → get_or (tabled f i n) k 0 ≡ f (i + k)
tabled_at f zero i k h = absurd (not-suc-le-zero h)
tabled_at f (suc n) i zero h = ap f (sym (add-zero i))
tabled_at f (suc n) i (suc k) h = tabled_at f n (suc i) k (le_of_suc-le-suc h) ∙ ap f (suc-add i k ∙ sym (add-suc i k))

tabled_length : (f : ℕ → ℕ) (i n : ℕ) → length (tabled f i n) ≡ n
tabled_length f i zero = refl
tabled_length f i (suc n) = ap suc (tabled_length f (suc i) n)

-- a list is the table of its elements
pub listed : (s : List ℕ) (n : ℕ) → length s ≡ n → s ≡ tabled (λ i. get_or s i 0) 0 n
listed s n h =
    let f : ℕ → ℕ = λ i. get_or s i 0 in
    ext_get_or 0 s (tabled f 0 n) (h ∙ sym (tabled_length f 0 n)) (λ i l. sym (tabled_at f n 0 i (omega arith) ∙ ap f (zero-add i)))

-- n values from i on that are all v
pub steady : (f : ℕ → ℕ) (i n v : ℕ) → tabled f i n ≡ replicate n v → (k : ℕ) → i ≤ k → k < i + n → f k ≡ v
steady f i n v e k h l =
    let there : k ≡ i + (k - i) = omega arith in
    let inside : k - i < n = omega arith in
    ap f there
    ∙ sym (tabled_at f n i (k - i) inside)
    ∙ ap (λ (t : List ℕ). get_or t (k - i) 0) e
    ∙ get_or-replicate n (k - i) v 0 inside
