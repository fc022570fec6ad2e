-- Which one comes next: the first entry of the full list at or after b, without those before it.
use mathlib.Core.Path.{◌≡◌, refl, ◌∙◌}
use mathlib.Core.Bool.{Bool, true, false, cond, ◌&&◌}
use mathlib.Core.Logic.{⊎_elim}
use mathlib.Core.List.{List, ◌∷◌, ◌++◌, append-nil, []}
use Rattle.std.proofs.Common.{Some, None}
use lib.ListN.{length, take}
use lib.Dec.{ltb}
use Prim.Native.Nat.{ℕ, zero, suc, ◌+◌, ◌-◌, ◌≤◌, ◌<◌}
use native.Mathlib.Omega.{arith}
use borrow.Author.Tests.{lt-ltb, le-ltb, le-leb, lt-leb}
use Rattle.digits.proofs.Order.{le-or_lt}
use Rattle.coming.specs.Next.{first_at}
use Rattle.repeats.specs.Held.{First, between, held, keep}
use Rattle.repeats.proofs.Held.{FirstBelow, between_append, first_head, held_none}

-- all entries lie below b
abbrev pub Below : ℕ → List ℕ → Type 0
Below b [] = Unit {0}
Below b (n ∷ l) = (n < b) × Below b l

keep_below : (t : Bool) (b n : ℕ) (l : List ℕ) → n < b → Below b l → Below b (keep t n l)
keep_below true b n l h i = (h, i)
keep_below false b n l h i = i

-- a stretch lies below its end
pub held_below : (P : ℕ → Bool) (a k b : ℕ) → a + k ≤ b → Below b (held P a k)
unfolding held
held_below P a zero b h = tt
held_below P a (suc k) b h = keep_below (P a) b a _ (omega arith) (held_below P (suc a) k b (omega arith))

-- nothing is taken of nothing
take_none : (c : ℕ) → take {A = ℕ} c [] ≡ []
take_none zero = refl
take_none (suc c) = refl

pub nothing : (b k : ℕ) → first_at b (take k []) ≡ None
unfolding first_at
nothing b k = rw (take_none k)

-- entries below b are passed over, and use up the count
pub skip : (b : ℕ) (l r : List ℕ) (c : ℕ) → Below b l → first_at b (take c (l ++ r)) ≡ first_at b (take (c - length l) r)
unfolding first_at
skip b [] r c h = let e : c - 0 ≡ c = omega arith in rw e
skip b (n ∷ l) r zero h = let e : 0 - suc (length l) ≡ 0 = omega arith in rw e
skip b (n ∷ l) r (suc c) h =
    let e : suc c - suc (length l) ≡ c - length l = omega arith in
    rw (e, lt-leb b n h.0) (skip b l r c h.1)

-- E12: what the full list has first at or after b, COUNT and limit counted in, is the least day from b on that holds,
-- if it lies below the limit and fewer than COUNT hold before b
pub asked : (P : ℕ → Bool) (s b n c limit : ℕ) → s ≤ b → FirstBelow P b n limit →
    first_at b (take c (between P s limit)) ≡ cond (ltb n limit && ltb (length (between P s b)) c) (Some n) None
asked P s b n c limit h f = ⊎_elim
    (λ (p : b ≤ limit). rw (between_append P s b limit h p)
    (skip b (between P s b) (between P b limit) c (held_below P s (b - s) b (omega arith)) ∙ here))
    (λ (p : limit < b). let l = f.reached in
    rw (le-ltb n limit (omega arith), ← append-nil (between P s limit))
    (skip b (between P s limit) [] c (held_below P s (limit - s) b (omega arith)) ∙ nothing b (c - length (between P s limit))))
    (le-or_lt b limit)
  where
    low : b ≤ n
    low = f.reached

    first : n < limit → First P b n
    first p = record { reached = low; holds = f.holds p; none = λ k x y. f.none_before k x y (omega arith) }

    taken : (k : ℕ) → n < limit → 1 ≤ k → first_at b (take k (n ∷ between P (suc n) limit)) ≡ Some n
    taken zero l g = absurd (omega arith)
    taken (suc k) l g = unfold first_at in rw (le-leb b n low)

    here : first_at b (take (c - length (between P s b)) (between P b limit)) ≡ cond (ltb n limit && ltb (length (between P s b)) c) (Some n) None
    here = ⊎_elim
        (λ (p : limit ≤ n). rw (held_none P b (limit - b) (λ k x y. f.none_before k x (omega arith) (omega arith)), le-ltb n limit p) (nothing b (c - length (between P s b))))
        (λ (p : n < limit). rw (first_head P b n limit (first p) p, lt-ltb n limit p) (⊎_elim
        (λ (q : c ≤ length (between P s b)). let e : c - length (between P s b) ≡ 0 = omega arith in rw (e, le-ltb (length (between P s b)) c q) (unfold first_at in refl))
        (λ (q : length (between P s b) < c). rw (lt-ltb (length (between P s b)) c q) (taken (c - length (between P s b)) p (omega arith)))
        (le-or_lt c (length (between P s b)))))
        (le-or_lt limit n)
