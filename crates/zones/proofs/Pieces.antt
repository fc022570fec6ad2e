-- The pieces of a checked file's zone by place: what is passed, the offset in force, and the walk from piece to piece.
use Prim.Native.Nat.{ℕ, zero, suc, ◌+◌, ◌-◌, ◌≤◌, ◌<◌}
use native.Mathlib.Nat.{add-zero, zero-add, sub-zero, not-suc-le-zero}
use native.Mathlib.Numerals.{add-one}
use native.Mathlib.Omega.{arith}
use mathlib.Core.Path.{◌≡◌, refl, ap, sym, ◌∙◌}
use mathlib.Core.Bool.{cond, ◌&&◌}
use mathlib.Core.List.{List}
use mathlib.Core.Logic.{⊎_elim}
use lib.Dec.{leb, ltb}
use lib.ListN.{drop}
use borrow.Author.Tests.{le-leb, lt-leb, ne_eqb}
use Rattle.refusals.specs.declared.Reason.TheVariants.{PastLast, NoInstant}
use Rattle.calendar.specs.Moments.{moment, refused}
use Rattle.digits.proofs.Order.{le-or_lt, Tri, below, equal, above, tri}
use Rattle.tzif.specs.Zones.{Row}
use Rattle.tzif.specs.File.{time_at, offset_at, last_at, offset_behind, row_at, rows_from, zone_in}
use Rattle.tzif.specs.declared.file.Places.{Places}
use Rattle.tzif.proofs.Checked.{Known, rows_bounded, rows_ascending}
use Rattle.zones.specs.Civil.{shift_at, last_of, last_in, resolve}
use Rattle.zones.specs.Search.{passed_by, first_piece, resolve_at}
use Rattle.zones.proofs.Searched.{behind_by, at_of, shift_of, shift_passed, skips, stops}

module _ (l : List ℕ) (p : Places) where
  -- what k + 1 of n transitions from i on leave behind them is the last one's
  behind_rows : (f : Row → ℕ) (x i n k : ℕ) → k < n → behind_by f x (rows_from l p i n) (suc k) ≡ f (row_at l p (i + k))
  behind_rows f x i zero k h = absurd (not-suc-le-zero h)
  behind_rows f x i (suc n) zero h = ap (λ (j : ℕ). f (row_at l p j)) (sym (add-zero i))
  behind_rows f x i (suc n) (suc k) h =
      let next : suc i + k ≡ i + suc k = omega arith in
      behind_rows f (f (row_at l p i)) (suc i) n k (omega arith) ∙ ap (λ (j : ℕ). f (row_at l p j)) next

  -- transitions from the k-th on
  drop-rows : (i n k : ℕ) → k ≤ n → drop k (rows_from l p i n) ≡ rows_from l p (i + k) (n - k)
  drop-rows i n zero h = rw (add-zero i, sub-zero n)
  drop-rows i zero (suc k) h = absurd (not-suc-le-zero h)
  drop-rows i (suc n) (suc k) h =
      let next : suc i + k ≡ i + suc k = omega arith in
      let left : suc n - suc k ≡ n - k = omega arith in
      drop-rows (suc i) n k (omega arith) ∙ rw (next, left)

  -- the offset behind k transitions
  behind_offset : (k : ℕ) → k ≤ p.count → behind_by shift_of (offset_at l p.types 0) (rows_from l p 0 p.count) k ≡ offset_behind l p k
  unfolding offset_behind
  behind_offset zero h = refl
  behind_offset (suc k) h =
      let back : suc k - 1 ≡ 0 + k = omega arith in
      behind_rows shift_of (offset_at l p.types 0) 0 p.count k (omega arith) ∙ rw (ne_eqb (suc k) 0 (λ e. omega arith), back)

  -- the start of the piece behind k transitions
  behind_start : (k : ℕ) → k ≤ p.count → behind_by at_of 0 (rows_from l p 0 p.count) k ≡ last_at l p.times k
  unfolding last_at
  behind_start zero h = refl
  behind_start (suc k) h =
      let back : suc k - 1 ≡ 0 + k = omega arith in
      behind_rows at_of 0 0 p.count k (omega arith) ∙ rw (ne_eqb (suc k) 0 (λ e. omega arith), back)

  -- the k transitions that are at or before s, where the next is behind it
  count_rows : (s i n k : ℕ) → k ≤ n → ((j : ℕ) → i ≤ j → j < i + k → time_at l p.times j ≤ s)
      → (k < n → s < time_at l p.times (i + k)) → passed_by s (rows_from l p i n) ≡ k
  count_rows s i zero zero h low high = refl
  count_rows s i zero (suc k) h low high = absurd (not-suc-le-zero h)
  count_rows s i (suc n) zero h low high =
      let next = rw (add-zero i) at (high (omega arith)) in
      rw (lt-leb (time_at l p.times i) s next)
  count_rows s i (suc n) (suc k) h low high =
      let next : suc i + k ≡ i + suc k = omega arith in
      rw (le-leb (time_at l p.times i) s (low i (omega arith) (omega arith)))
      (ap suc (count_rows s (suc i) n k (omega arith) (λ j a b. low j (omega arith) (omega arith)) (λ a. rw next (high (omega arith)))))

  pub passed_is : (s k : ℕ) → k ≤ p.count → ((j : ℕ) → j < k → time_at l p.times j ≤ s)
      → (k < p.count → s < time_at l p.times k) → passed_by s (zone_in l p).rows ≡ k
  unfolding zone_in
  passed_is s k h low high =
      count_rows s 0 p.count k h (λ j a b. low j (omega arith)) (λ a. rw (zero-add k) (high a))

  -- the offset in force
  pub shift_is : (s k : ℕ) → k ≤ p.count → k ≡ passed_by s (zone_in l p).rows
      → shift_at (zone_in l p).first (zone_in l p).rows s ≡ offset_behind l p k
  unfolding zone_in
  shift_is s k h e =
      let o = offset_at l p.types 0 in
      let rs = rows_from l p 0 p.count in
      shift_passed o rs s ∙ ap (behind_by shift_of o rs) (sym e) ∙ behind_offset k h

  -- the last of n transitions
  last_rows : (from i n : ℕ) → last_of from (rows_from l p i (suc n)) ≡ time_at l p.times (i + n)
  last_rows from i zero = ap (time_at l p.times) (sym (add-zero i))
  last_rows from i (suc n) =
      let next : suc i + n ≡ i + suc n = omega arith in
      last_rows (time_at l p.times i) (suc i) n ∙ ap (time_at l p.times) next

  last_count : (n : ℕ) → last_at l p.times n ≡ last_of 0 (rows_from l p 0 n)
  unfolding last_at
  last_count zero = refl
  last_count (suc n) =
      let back : suc n - 1 ≡ 0 + n = omega arith in
      rw (ne_eqb (suc n) 0 (λ e. omega arith), back) (sym (last_rows 0 0 n))

  -- one transition more
  last_on : (k : ℕ) → last_at l p.times (k + 1) ≡ time_at l p.times k
  unfolding last_at
  last_on k = let back : k + 1 - 1 ≡ k = omega arith in rw (ne_eqb (k + 1) 0 (λ e. omega arith), back)

  offset_on : (k : ℕ) → offset_behind l p (k + 1) ≡ (row_at l p k).shift
  unfolding offset_behind
  offset_on k = let back : k + 1 - 1 ≡ k = omega arith in rw (ne_eqb (k + 1) 0 (λ e. omega arith), back)

  -- a piece that has c, and those behind it
  pub resolve_step : (k c : ℕ) → k < p.count
      → resolve_at l p k c
      ≡ cond (leb (last_at l p.times k + offset_behind l p k) c && ltb c (time_at l p.times k + offset_behind l p k))
      (moment (c - offset_behind l p k)) (resolve_at l p (k + 1) c)
  unfolding resolve_at
  resolve_step k c h =
      let more : p.count - k ≡ suc (p.count - (k + 1)) = omega arith in
      rw (more, last_on k, offset_on k, add-one k)

  -- the last piece
  pub resolve_last : (c : ℕ)
      → resolve_at l p p.count c
      ≡ cond (leb (last_at l p.times p.count + offset_behind l p p.count) c) (refused PastLast) (refused NoInstant)
  unfolding resolve_at
  resolve_last c = let none : p.count - p.count ≡ 0 = omega arith in rw none

  module _ (k : Known l p) where
    -- the last transition is the zone's
    pub last_is : p.last ≡ last_in (zone_in l p)
    unfolding zone_in
    last_is = k.last ∙ last_count p.count

    -- times in order
    pub rising : (i j : ℕ) → i ≤ j → j < p.count → time_at l p.times i ≤ time_at l p.times j
    rising i zero h m = let same : i ≡ 0 = omega arith in rw same (omega arith)
    rising i (suc j) h m = go (tri i (suc j)) (λ a. rising i j a (omega arith)) (k.rises j (omega arith))
      where
        go : Tri i (suc j) → (i ≤ j → time_at l p.times i ≤ time_at l p.times j) → time_at l p.times j < time_at l p.times (j + 1)
            → time_at l p.times i ≤ time_at l p.times (suc j)
        go (below a) on r = let s = on (omega arith) in let q = rw (add-one j) at r in omega arith
        go (equal a) on r = rw a (omega arith)
        go (above a) on r = absurd (omega arith)

    -- the first piece that can hold c, far from the start and near it
    resolve_far : (c i : ℕ) → 183599 ≤ c → i ≤ p.count → i ≡ passed_by (c - 183599) (rows_from l p 0 p.count) → resolve (zone_in l p) c ≡ resolve_at l p i c
    unfolding zone_in resolve_at
    resolve_far c i m h e =
        skips 0 (offset_at l p.types 0) (rows_from l p 0 p.count) c (c - 183599) k.below
        (rows_bounded l p k 0 p.count (omega arith)) (omega arith)
        ∙ rw (← e, behind_start i h, behind_offset i h, drop-rows 0 p.count i h, zero-add i)

    resolve_near : (c : ℕ) → resolve (zone_in l p) c ≡ resolve_at l p 0 c
    unfolding zone_in resolve_at last_at offset_behind
    resolve_near c = rw (sub-zero p.count)

    pub resolve_first : (c i : ℕ) → i ≤ p.count → i ≡ first_piece c (zone_in l p).rows → resolve (zone_in l p) c ≡ resolve_at l p i c
    unfolding zone_in first_piece
    resolve_first c i h e = ⊎_elim far near (le-or_lt 183599 c)
      where
        far : 183599 ≤ c → resolve (zone_in l p) c ≡ resolve_at l p i c
        far m = resolve_far c i m h (rw (le-leb 183599 c m) at e)

        near : c < 183599 → resolve (zone_in l p) c ≡ resolve_at l p i c
        near m = let same : i ≡ 0 = rw (lt-leb 183599 c m) at e in rw same (resolve_near c)

    -- no piece behind one that ends at c or later has it
    pub resolve_stop : (i c : ℕ) → i < p.count → c ≤ time_at l p.times i → resolve_at l p (i + 1) c ≡ refused NoInstant
    unfolding resolve_at
    resolve_stop i c h m =
        rw (last_on i, offset_on i)
        (stops (time_at l p.times i) (row_at l p i).shift (rows_from l p (i + 1) (p.count - (i + 1))) c (k.row i h).some
        (rows_bounded l p k (i + 1) (p.count - (i + 1)) (omega arith))
        (rows_ascending l p k (i + 1) (p.count - (i + 1)) (time_at l p.times i) (omega arith) (λ q. let r = k.rises i q in omega arith)) m)
