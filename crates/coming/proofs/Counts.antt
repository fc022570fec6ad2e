-- Counting by turns: a count over the multiples of i, and a count by remainders.
use mathlib.Core.Path.{◌≡◌, refl, ap, sym, ◌∙◌}
use mathlib.Core.Bool.{Bool, true, false, ◌&&◌}
use mathlib.Core.Logic.{⊎_elim}
use Prim.Native.Nat.{ℕ, zero, suc, ◌+◌, ◌-◌, ◌*◌, ◌/◌, ◌%◌, ◌≤◌, ◌<◌}
use native.Mathlib.Nat.{eq-or-lt_of_le, div-add-mod, mod-lt, mul-add-mod_self_left, mod-eq_of_lt}
use native.Mathlib.Omega.{arith}
use Rattle.digits.proofs.Order.{le-or_lt}
use Rattle.coming.specs.Counts.{count, sum}
use Rattle.repeats.specs.Firsts.{up}
use Rattle.repeats.specs.Held.{one}
use Rattle.repeats.specs.Occurrences.{divides}
use Rattle.coming.proofs.Division.{up_divided, up_step}
use Rattle.coming.proofs.Lengths.{and-false, and-true, count_step, count_zero}
use Rattle.repeats.proofs.Division.{divided, up_is}

-- tests that agree below n count the same
pub count_same : (P Q : ℕ → Bool) (n : ℕ) → ((k : ℕ) → k < n → P k ≡ Q k) → count P n ≡ count Q n
unfolding count
count_same P Q zero f = refl
count_same P Q (suc n) f = rw (count_same P Q n (λ k l. f k (omega arith)), f n (omega arith))

-- terms that agree below n add up to the same
pub sum_same : (f g : ℕ → ℕ) (n : ℕ) → ((k : ℕ) → k < n → f k ≡ g k) → sum f n ≡ sum g n
unfolding sum
sum_same f g zero e = refl
sum_same f g (suc n) e = rw (sum_same f g n (λ k l. e k (omega arith)), e n (omega arith))

-- nothing adds up to nothing
sum-none : (f : ℕ → ℕ) (n : ℕ) → ((k : ℕ) → k < n → f k ≡ 0) → sum f n ≡ 0
unfolding sum
sum-none f zero e = refl
sum-none f (suc n) e = let a = sum-none f n (λ k l. e k (omega arith)) in let b = e n (omega arith) in omega arith

-- one term that is x more makes the sum x more
sum-at : (f g : ℕ → ℕ) (n r x : ℕ) → r < n → g r ≡ f r + x → ((k : ℕ) → k < n → (k ≡ r → ⊥) → g k ≡ f k) → sum g n ≡ sum f n + x
unfolding sum
sum-at f g zero r x h e o = absurd (omega arith)
sum-at f g (suc n) r x h e o =
    ⊎_elim
    (λ (p : r ≡ n).
    let a = sum_same g f n (λ k l. o k (omega arith) (λ (q : k ≡ r). omega arith)) in
    let b : g n ≡ f n + x = rw p at e in
    omega arith)
    (λ (p : r < n).
    let a = sum-at f g n r x p e (λ k l. o k (omega arith)) in
    let b = o n (omega arith) (λ (q : n ≡ r). omega arith) in
    omega arith)
    (eq-or-lt_of_le {n = r} {m = n} (omega arith))

-- the multiples of i below n, by their quotients
pub count_sparse : (P : ℕ → Bool) (i n : ℕ) → 1 ≤ i → count (λ x. P x && divides i x) n ≡ count (λ t. P (i * t)) (up i n)
count_sparse P i zero h =
    let z = up_is i 0 0 (omega arith) (omega arith) in rw z (count_zero (λ x. P x && divides i x) ∙ sym (count_zero (λ t. P (i * t))))
count_sparse P i (suc n) h =
    rw (count_step (λ x. P x && divides i x) n, up_step i n h, count_sparse P i n h) (go (divides i n) refl)
  where
    go : (t : Bool) → divides i n ≡ t → count (λ t. P (i * t)) (up i n) + one (P n && t) ≡ count (λ t. P (i * t)) (up i n + one t)
    go true e =
        let a : up i n + 1 ≡ suc (n / i) = let b = up_divided i n h e in omega arith in
        let c = ap P (divided i n e) in
        rw (a, up_divided i n h e, count_step (λ t. P (i * t)) (n / i), and-true (P n), c)
    go false e = let a : up i n + 0 ≡ up i n = omega arith in rw (a, and-false (P n)) (omega arith)

-- a count over n turns is the sum over the remainders by p of the counts over their turns
pub count_split : (P : ℕ → Bool) (p n : ℕ) → 1 ≤ p → count P n ≡ sum (λ r. count (λ u. P (p * u + r)) (up p (n - r))) p
count_split P p zero h = count_zero P ∙ sym (sum-none _ p λ r l.
    let z = up_is p (0 - r) 0 (omega arith) (omega arith) in rw z (count_zero (λ u. P (p * u + r))))
count_split P p (suc n) h =
    rw (count_step P n, count_split P p n h)
    (sym (sum-at (λ r. count (λ u. P (p * u + r)) (up p (n - r))) (λ r. count (λ u. P (p * u + r)) (up p (suc n - r)))
    p (n % p) (one (P n)) (mod-lt n h) here other))
  where
    whole : p * (n / p) + n % p ≡ n
    whole = div-add-mod n p

    here : count (λ u. P (p * u + n % p)) (up p (suc n - n % p)) ≡ count (λ u. P (p * u + n % p)) (up p (n - n % p)) + one (P n)
    here =
        let a = up_is p (n - n % p) (n / p) (omega (arith, whole)) (omega (arith, whole)) in
        let b = up_is p (suc n - n % p) (suc (n / p)) (omega (arith, whole)) (omega (arith, whole)) in
        rw (a, b, count_step (λ u. P (p * u + n % p)) (n / p), ap P whole)

    off : (k : ℕ) → k < p → (k ≡ n % p → ⊥) → k ≤ n → (t : Bool) → divides p (n - k) ≡ t → one t ≡ 0
    off k l o g false e = refl
    off k l o g true e =
        let a = divided p (n - k) e in
        let b : p * ((n - k) / p) + k ≡ n = omega arith in
        absurd (o (sym (ap (λ x. x % p) (sym b) ∙ (mul-add-mod_self_left p ((n - k) / p) k ∙ mod-eq_of_lt l))))

    other : (k : ℕ) → k < p → (k ≡ n % p → ⊥) → count (λ u. P (p * u + k)) (up p (suc n - k)) ≡ count (λ u. P (p * u + k)) (up p (n - k))
    other k l o = ap (count (λ u. P (p * u + k))) (⊎_elim
        (λ (g : k ≤ n). let e : suc n - k ≡ suc (n - k) = omega arith in
        let z = off k l o g (divides p (n - k)) refl in
        let y = up_step p (n - k) h in
        rw e (omega arith))
        (λ (g : n < k). let e : suc n - k ≡ n - k = omega arith in rw e)
        (le-or_lt k n))
