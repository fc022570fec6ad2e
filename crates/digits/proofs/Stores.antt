-- Runs of stores: one behind another, one in a part of a list. Assumes nothing.
use Prim.Native.Nat.{ℕ, suc, ◌+◌, ◌-◌, ◌≤◌, ◌<◌}
use native.Mathlib.Nat.{zero-add, add-zero, add-suc, suc-add}
use native.Mathlib.Numerals.{add-one}
use native.Mathlib.Omega.{arith}
use mathlib.Core.Path.{◌≡◌, refl, ap, ◌∙◌}
use mathlib.Core.List.{List, [], ◌∷◌, ◌++◌, append-nil}
use lib.ListN.{length, get_or, take, drop, set, length-take, length-drop, take-append-drop, drop_of_length-le, get_or-append}
use lib.Seq.{sets, sets-eq, take_all, take_at, take-length, take-suc, length-take-le, take-set-le, drop-set-add, set_comm, get_or-set_other, get_or-drop}

-- a store at a place before a run of stores
set-sets : (l : List ℕ) (i j a : ℕ) (vs : List ℕ) → i < j → set (sets l j vs) i a ≡ sets (set l i a) j vs
set-sets l i j a [] h = refl
set-sets l i j a (v ∷ vs) h =
    set-sets (set l j v) i (suc j) a vs (omega arith)
    ∙ ap (λ (m : List ℕ). sets m (suc j) vs) (set_comm l j i v a (λ e. omega arith))

-- a store right before a run
pub set_before : (l : List ℕ) (i a : ℕ) (vs : List ℕ) → set (sets l (suc i) vs) i a ≡ sets l i (a ∷ vs)
set_before l i a vs = set-sets l i (suc i) a vs (omega arith)

-- a run behind a run
pub sets-append : (a b l : List ℕ) (i : ℕ) → sets l i (a ++ b) ≡ sets (sets l i a) (i + length a) b
sets-append [] b l i = rw add-zero
sets-append (x ∷ a) b l i = rw (add-suc, ← (suc-add i (length a))) (sets-append a b (set l i x) (suc i))

-- one more element of a copy
pub sets-take :
    (l : List ℕ) (i : ℕ) (vs : List ℕ) (j : ℕ) → j < length vs
    → set (sets l i (take j vs)) (i + j) (get_or vs j 0) ≡ sets l i (take (j + 1) vs)
sets-take l i vs j h =
    let len : length (take j vs) ≡ j = length-take-le j vs (omega arith) in
    rw (add-one, take-suc vs j 0, sets-append (take j vs) (get_or vs j 0 ∷ []), len)

-- what stands behind a run
get_d_sets : (l : List ℕ) (i : ℕ) (vs : List ℕ) (j d : ℕ) → i + length vs ≤ j → get_or (sets l i vs) j d ≡ get_or l j d
get_d_sets l i [] j d h = refl
get_d_sets l i (v ∷ vs) j d h =
    let past : i + suc (length vs) ≤ j = h in
    get_d_sets (set l i v) (suc i) vs j d (omega arith) ∙ get_or-set_other l i j v d (λ e. omega arith)

-- a list begins with what was stored from its front on
module _ (vs l : List ℕ) (h : length vs ≤ length l) where
  stored : sets l 0 vs ≡ vs ++ drop (0 + length vs) l
  stored = sets-eq vs l 0 (omega arith)

  pub sets-taken : (n : ℕ) → length vs ≡ n → take n (sets l 0 vs) ≡ vs
  sets-taken n e = rw stored (take_at vs (drop (0 + length vs) l) n e)

  pub sets-at : (k : ℕ) → k < length vs → get_or (sets l 0 vs) k 0 ≡ get_or vs k 0
  sets-at k b = rw stored (get_or-append vs (drop (0 + length vs) l) 0 k b)

-- a run in the part from a on
sets-part : (vs l : List ℕ) (a j : ℕ) → take a l ++ sets (drop a l) j vs ≡ sets l (a + j) vs
sets-part [] l a j = take-append-drop a l
sets-part (v ∷ vs) l a j =
    rw (← (drop-set-add a l j v), ← (take-set-le a l (a + j) v (omega arith)), sets-part vs (set l (a + j) v) a (suc j), add-suc)

-- what a callee that was lent the part from a on has stored there
pub lent_part :
    (l : List ℕ) (a : ℕ) (vs : List ℕ) →
    take a l ++ (sets (take (length l - a) (drop a l)) 0 vs ++ drop (length l - a) (drop a l)) ≡ sets l a vs
lent_part l a vs =
    let len : length (drop a l) ≤ length l - a = rw length-drop (omega arith) in
    rw (take_all (length l - a) (drop a l) len, drop_of_length-le (drop a l) len, append-nil, sets-part vs l a 0, add-zero)

-- one more element moved to the front of its own list
pub moved :
    (l : List ℕ) (a i : ℕ) → a + i < length l →
    let m = sets l 0 (take i (drop a l)) in
    set m i (get_or m (a + i) 0) ≡ sets l 0 (take (i + 1) (drop a l))
moved l a i h =
    let len : length (take i (drop a l)) ≤ i = rw length-take (omega arith) in
    let inside : i < length (drop a l) = rw length-drop (omega arith) in
    rw (get_d_sets l 0 (take i (drop a l)) (a + i) 0 (omega arith), ← (get_or-drop a l i 0))
    (rw zero-add at (sets-take l 0 (drop a l) i inside))

-- what a callee that copies a list to the front has stored
pub copied : (vs l : List ℕ) → length vs ≤ length l → take (length vs) vs ++ drop (length vs) l ≡ sets l 0 vs
copied vs l h = rw (take-length, sets-eq vs l 0 (omega arith), zero-add)
