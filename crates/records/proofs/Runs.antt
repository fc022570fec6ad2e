-- A slice of records is run as the list that it stands for: its test record by record, and its steps one by one.
use Prim.Native.Nat.{ℕ, suc, ◌+◌, ◌-◌, ◌*◌, ◌/◌, ◌%◌, ◌≤◌, ◌<◌}
use native.Mathlib.Omega.{arith}
use native.Mathlib.Nat.{add-zero, zero-add, add_assoc}
use mathlib.Core.Path.{◌≡◌, refl, sym}
use mathlib.Core.Bool.{Bool, true, false, cond, ◌&&◌, and-false, false≢true}
use mathlib.Core.List.{List, [], ◌∷◌}
use borrow.Author.Tests.{le-leb, ne_eqb}
use lib.Dec.{leb, eqb}
use lib.ListN.{length}
use Rattle.numbers.specs.Slices.{one_if}
use Rattle.calendar.specs.Moments.{moment, and_then}
use Rattle.calendar.specs.declared.moments.Moment.{Moment}
use Rattle.calendar.proofs.Outcomes.{at_moment}
use Rattle.calendar.proofs.Valid.{test_moment}
use Rattle.steps.proofs.Offsets.{run_walks}
use Rattle.steps.specs.Running.{is_start, is_time_step, times_due, starts, times, is_list, act_of, walk_of}
use Rattle.steps.specs.declared.plan.Step.{Step}
use Rattle.records.specs.Words.{step_from}
use Rattle.records.specs.Records.{words_at, is_record, are_records, steps_at, decode_of, may_follow}
use Rattle.records.proofs.Lists.{too_long, not-whole, by_records, length-steps, are_next, steps_next}

-- one start is more than none
one_more : (k : ℕ) → eqb (1 + k) 0 ≡ false
one_more k = ne_eqb (1 + k) 0 (λ z. omega arith)

-- the records from record i on may follow, k time steps before them counted
unfoldable pub follow_from : ℕ → ℕ → ℕ → ℕ → List ℕ → Bool
follow_from due k n i l =
    let ss = steps_at (n - i) l (16 * i) in
    are_records (n - i) l (16 * i) && (eqb (starts ss) 0 && eqb (k + times ss) due)

-- those behind the first, with none counted yet
pub follow_first : (due n : ℕ) (l : List ℕ) → follow_from due 0 n 1 l ≡ may_follow due (n - 1) l 16
unfolding follow_from may_follow
follow_first due n l = rw zero-add

-- a record that no step encodes to ends the test
pub follow_damaged :
    (due k n i : ℕ) (l : List ℕ) → i < n → is_record (words_at l (16 * i)) ≡ false → follow_from due k n i l ≡ false
unfolding follow_from
follow_damaged due k n i l h e = rw (are_next n i l h, e)

-- so does a start
pub follow_start :
    (due k n i : ℕ) (l : List ℕ) → i < n → is_start (step_from (words_at l (16 * i))) ≡ true → follow_from due k n i l ≡ false
unfolding follow_from
follow_start due k n i l h e = rw (steps_next n i l h, e, one_more, and-false)

-- any other step is counted
pub follow_on :
    (due k m n i : ℕ) (l : List ℕ) → i < n → is_record (words_at l (16 * i)) ≡ true → is_start (step_from (words_at l (16 * i))) ≡ false →
    m ≡ one_if (is_time_step (step_from (words_at l (16 * i)))) → follow_from due (k + m) n (i + 1) l ≡ follow_from due k n i l
unfolding follow_from
follow_on due k m n i l h e f g = rw (are_next n i l h, steps_next n i l h, e, f, zero-add, g, add_assoc)

-- behind the last one
pub follow_last : (due k n i : ℕ) (l : List ℕ) → n ≤ i → follow_from due k n i l ≡ eqb k due
unfolding follow_from
follow_last due k n i l h = let none : n - i ≡ 0 = omega arith in rw (none, add-zero)

-- what the test of the records behind the first one needs
pub ruleset following = (follow_first, follow_damaged, follow_start, follow_on, follow_last)

-- no record, no list
pub none_listed : (l : List ℕ) → length l ≡ 0 → is_list (decode_of l) ≡ false
unfolding decode_of
none_listed l e = rw e

-- a list by its first step and the others
by_step :
    (a b : Bool) (s : Step) (ss : List Step) → length (s ∷ ss) ≤ 24 →
    is_list (cond (a && b) (s ∷ ss) []) ≡ (a && (is_start s && (b && (eqb (starts ss) 0 && eqb (times ss) (times_due s)))))
by_step true true s ss h = rw (le-leb (length (s ∷ ss)) 24 h)
by_step true false s ss h = sym (and-false (is_start s))
by_step false b s ss h = refl

-- a slice of whole records, few enough, by the first record and the n others
by_count :
    (l : List ℕ) (n : ℕ) → length l ≤ 384 → length l % 16 ≡ 0 → length l / 16 ≡ suc n →
    let s = step_from (words_at l 0) in
    is_list (decode_of l) ≡ (is_record (words_at l 0) && (is_start s && may_follow (times_due s) n l 16))
unfolding may_follow
by_count l n few whole count =
    let size : length (steps_at (suc n) l 0) ≤ 24 = omega (arith, length-steps (suc n) l 0) in
    rw (by_records l few whole, count)
    (by_step (is_record (words_at l 0)) (are_records n l 16) (step_from (words_at l 0)) (steps_at n l 16) size)

-- so a slice of some records is tested
pub by_first :
    (l : List ℕ) → length l ≤ 384 → length l % 16 ≡ 0 → 0 < length l →
    is_list (decode_of l)
    ≡ (is_record (words_at l 0)
    && (is_start (step_from (words_at l 0)) && may_follow (times_due (step_from (words_at l 0))) (length l / 16 - 1) l 16))
by_first l few whole some = by_count l (length l / 16 - 1) few whole (omega arith)

-- where a list was chosen, it is the one
listed : (t : Bool) (ss : List Step) → is_list (cond t ss []) ≡ true → cond t ss [] ≡ ss
listed true ss h = refl
listed false ss h = absurd (false≢true h)

-- a slice that stands for a list has its steps from the first record on
pub all_steps : (l : List ℕ) → is_list (decode_of l) ≡ true → decode_of l ≡ steps_at (length l / 16) l 0
unfolding decode_of
all_steps l h =
    let n = length l / 16 in
    listed (leb (length l) 384 && (eqb (length l % 16) 0 && are_records n l 0)) (steps_at n l 0) h

-- the records from record i on lead where the others lead from what this one gives
pub walk_on :
    (l : List ℕ) (n i : ℕ) (at t : Moment) → i < n →
    walk_of (steps_at (n - i) l (16 * i)) at t
    ≡ and_then (act_of (step_from (words_at l (16 * i))) at t) (walk_of (steps_at (n - (i + 1)) l (16 * (i + 1))) at)
walk_on l n i at t h = rw (steps_next n i l h)

-- and behind the last one nothing is done
pub walk_last : (l : List ℕ) (n i : ℕ) (at t : Moment) → n ≤ i → walk_of (steps_at (n - i) l (16 * i)) at t ≡ moment t
walk_last l n i at t h = let none : n - i ≡ 0 = omega arith in rw none

-- what a walk over the records needs
pub ruleset walking = (walk_on, walk_last, at_moment)

-- what a test of a slice as a list needs
pub ruleset listing = (too_long, not-whole, none_listed, by_first)

-- what a run of a slice needs
pub ruleset running = (run_walks, test_moment, all_steps)
