-- The lowest free slot, place by place, and of a board.
use Prim.Native.Nat.{ℕ, zero, suc, ◌+◌, ◌≤◌, ◌<◌}
use native.Mathlib.Nat.{add-zero, not-suc-le-zero, le_of_suc-le-suc}
use native.Mathlib.Omega.{arith}
use mathlib.Core.Path.{◌≡◌, refl, ap}
use mathlib.Core.Bool.{Bool, true, false, cond}
use mathlib.Core.List.{List, [], ◌∷◌}
use lib.Dec.{eqb, ltb}
use lib.ListN.{length, get_or, drop}
use lib.Seq.{drop-cons}
use borrow.Author.Tests.{eq-eqb, ne_eqb, eqb-true, ltb-true, ltb-false, lt-ltb, le-ltb}
use Rattle.std.specs.Prelude.{position, Option, Some, None}
use Rattle.std.specs.List.{position_or_len}
use Rattle.std.proofs.lemmas.List.Recursion.{is_position_or_len}
use Rattle.refusals.specs.declared.Reason.TheVariants.{FullBoard}
use Rattle.refusals.specs.Answers.{given, refuse}
use Rattle.calendar.specs.Moments.{moment_in}
use Rattle.board.specs.Boards.{Memory, count_in, is_filled, lowest_free, free_slot, slot_for, slot_from}
use Rattle.board.specs.Scans.{Sized, IsBoard}
use Rattle.board.proofs.Orders.{order_full}

-- a free one, behind none that is free, is the lowest
pub free_here : (l : List ℕ) (i : ℕ) → lowest_free l ≡ i + lowest_free (drop i l) → i < length l → get_or l i 0 ≡ 0 → i ≡ lowest_free l
free_here l i before h e = rw (before, drop-cons l i 0 h, eq-eqb (get_or l i 0) 0 e, add-zero)

-- the lowest free one is the first that is free
pub lowest_place : (l : List ℕ) → lowest_free l ≡ position_or_len (λ n. eqb n 0) l
lowest_place l = is_position_or_len lowest_free (λ n. eqb n 0) refl step l
  where
    step : (x : ℕ) (xs : List ℕ) → lowest_free (x ∷ xs) ≡ cond (eqb x 0) 0 (1 + lowest_free xs)
    step x xs = let one : suc (lowest_free xs) ≡ 1 + lowest_free xs = omega arith in ap (λ (k : ℕ). cond (eqb x 0) 0 k) one

-- a place that is found is one of the list
pub found_within : (l : List ℕ) (s : ℕ) → position (λ n. eqb n 0) l ≡ Some s → s < length l
found_within l s e = go (ltb (position_or_len (λ n. eqb n 0) l) (length l)) refl e
  where
    go : (b : Bool) → let k = position_or_len (λ n. eqb n 0) l in
        ltb k (length l) ≡ b → ◌≡◌ {A = Option ℕ} (cond b (Some k) None) (Some s) → s < length l
    go true t h = let same : position_or_len (λ n. eqb n 0) l ≡ s = cc in omega (arith, ltb-true _ _ t)
    go false t h = let z : ◌≡◌ {A = ℕ} 0 1 = cc in absurd (omega arith)

-- the slot that a board with room has
pub slot_found : (m : Memory) → length m.lengths ≡ 256 → count_in m.state < 256 → slot_from (position (λ n. eqb n 0) m.lengths) ≡ slot_for m
unfolding slot_for
slot_found m sized few = rw (lt-ltb _ _ few, sized, lowest_place m.lengths) (go (ltb (position_or_len (λ n. eqb n 0) m.lengths) 256))
  where
    go : (b : Bool) → let k = position_or_len (λ n. eqb n 0) m.lengths in slot_from (cond b (Some k) None) ≡ cond b (given k) (refuse FullBoard 0 0)
    go true = refl
    go false = refl

-- and a full one
pub none_found : (m : Memory) → 256 ≤ count_in m.state → slot_from None ≡ slot_for m
unfolding slot_for
none_found m full = rw (le-ltb _ _ full)

-- the lowest free slot is free
free_is : (l : List ℕ) → lowest_free l < length l → get_or l (lowest_free l) 0 ≡ 0
free_is [] h = absurd (not-suc-le-zero h)
free_is (k ∷ l) h = go (eqb k 0) refl (λ g. free_is l g) h
  where
    go : (b : Bool) → eqb k 0 ≡ b → (lowest_free l < length l → get_or l (lowest_free l) 0 ≡ 0) → cond b 0 (suc (lowest_free l)) < suc (length l) →
        get_or (k ∷ l) (cond b 0 (suc (lowest_free l))) 0 ≡ 0
    go true e on g = eqb-true k 0 e
    go false e on g = on (le_of_suc-le-suc g)

-- and no lower one is: "A removed slot is used again, lowest first."
lower_filled : (l : List ℕ) (i : ℕ) → i < lowest_free l → get_or l i 0 ≡ 0 → ⊥
lower_filled [] i h e = not-suc-le-zero h
lower_filled (k ∷ l) zero h e = not-suc-le-zero (rw (eq-eqb k 0 e) at h)
lower_filled (k ∷ l) (suc i) h e = go (eqb k 0) (λ g. lower_filled l i g e) h
  where
    go : (b : Bool) → (i < lowest_free l → ⊥) → suc i < cond b 0 (suc (lowest_free l)) → ⊥
    go true on g = not-suc-le-zero g
    go false on g = on (le_of_suc-le-suc g)

-- the slot that is taken
pub record Free (m : Memory) (s : ℕ) : Type 0 where
  pub here : s < 256
  pub empty : is_filled m s ≡ false
  pub lowest : (i : ℕ) → i < s → is_filled m i ≡ true
  pub room : count_in m.state < 256

pub free_slot_lem : (m : Memory) → Sized m → free_slot m < 256 → Free m (free_slot m)
free_slot_lem m sized h = go (ltb (count_in m.state) 256) refl h
  where
    go : (b : Bool) → ltb (count_in m.state) 256 ≡ b → cond b (lowest_free m.lengths) 256 < 256 → Free m (cond b (lowest_free m.lengths) 256)
    go true e g =
        let empty = free_is m.lengths (omega (arith, sized.lengths)) in
        record {
          here = g;
          empty = rw (eq-eqb _ 0 empty);
          lowest = λ i h. rw (ne_eqb _ 0 (lower_filled m.lengths i h));
          room = ltb-true _ _ e;
        }
    go false e g = absurd (omega arith)

-- "24 for a full board": then each slot holds a reminder
pub full_filled : (m : Memory) → IsBoard m → 256 ≤ free_slot m → (s : ℕ) → s < 256 → is_filled m s ≡ true
full_filled m board h s g = go (ltb (count_in m.state) 256) refl h
  where
    go : (b : Bool) → ltb (count_in m.state) 256 ≡ b → 256 ≤ cond b (lowest_free m.lengths) 256 → is_filled m s ≡ true
    go true e f = rw (ne_eqb _ 0 (lower_filled m.lengths s (omega arith)))
    go false e f = order_full m (moment_in m.state) (omega (arith, board.count, ltb-false (count_in m.state) 256 e)) s g
