-- The bytes of a slot: what was put into it, and what stays in the others. Assumes nothing.
use Prim.Native.Nat.{ℕ, suc, ◌+◌, ◌-◌, ◌*◌, ◌≤◌}
use native.Mathlib.Omega.{arith}
use mathlib.Core.Path.{◌≡◌, refl, ap, sym, ◌∙◌}
use mathlib.Core.List.{List, [], ◌∷◌, ◌++◌, append_assoc}
use lib.ListN.{length, take, drop, set}
use lib.Seq.{sets, sets-eq, take_at, drop_at, length-take-le, take-set-le, drop-set-lt}
use Rattle.digits.proofs.Order.{Tri, tri, below, equal, above}
use Rattle.digits.proofs.Takes.{drop-take}

-- before a run of stores
take-sets : (vs l : List ℕ) (n i : ℕ) → n ≤ i → take n (sets l i vs) ≡ take n l
take-sets [] l n i h = refl
take-sets (v ∷ vs) l n i h = take-sets vs (set l i v) n (suc i) (omega arith) ∙ take-set-le n l i v h

-- and behind it
drop-sets : (vs l : List ℕ) (n i : ℕ) → i + length vs ≤ n → drop n (sets l i vs) ≡ drop n l
drop-sets [] l n i h = refl
drop-sets (v ∷ vs) l n i h =
    let past : i + suc (length vs) ≤ n = h in
    drop-sets vs (set l i v) n (suc i) (omega arith) ∙ drop-set-lt n l i v (omega arith)

module _ (l p : List ℕ) (s : ℕ) where
  -- the slot's own
  pub own_slot : 384 * s + length p ≤ length l → take (length p) (drop (384 * s) (sets l (384 * s) p)) ≡ p
  own_slot h =
      let a = 384 * s in
      let rest = drop (a + length p) l in
      rw (sets-eq p l a h, append_assoc (take a l) p rest, drop_at (take a l) (p ++ rest) a (length-take-le a l (omega arith)))
      (take_at p rest (length p) refl)

  -- another one's
  pub other_slot : (i k : ℕ) → (i ≡ s → ⊥) → length p ≤ 384 → k ≤ 384 → take k (drop (384 * i) (sets l (384 * s) p)) ≡ take k (drop (384 * i) l)
  other_slot i k ne few small = go (tri i s)
    where
      -- a part as the end of a front
      front : (x : List ℕ) → drop (384 * i) (take (384 * i + k) x) ≡ take k (drop (384 * i) x)
      front x =
          let size : 384 * i + k - 384 * i ≡ k = omega arith in
          rw size at (drop-take (384 * i) (384 * i + k) x (omega arith))

      go : Tri i s → take k (drop (384 * i) (sets l (384 * s) p)) ≡ take k (drop (384 * i) l)
      go (below h) =
          sym (front (sets l (384 * s) p))
          ∙ ap (drop (384 * i)) (take-sets p l (384 * i + k) (384 * s) (omega arith))
          ∙ front l
      go (equal e) = absurd (ne e)
      go (above h) = ap (take k) (drop-sets p l (384 * i) (384 * s) (omega arith))
