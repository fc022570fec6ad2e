-- Of a board that was made by the calls of apps: the order is kept and by moment, the head is what a scan gives, and a refused call leaves it.
-- Assumes nothing.
use Prim.Native.Nat.{ℕ, suc, ◌*◌, ◌≤◌, ◌<◌}
use native.Mathlib.Omega.{arith}
use mathlib.Core.Path.{◌≡◌, refl, sym, subst, ap, ◌∙◌}
use mathlib.Core.Bool.{Bool, true, false, cond, not}
use mathlib.Core.List.{List, [], ◌∷◌, map}
use lib.Dec.{eqb, ltb}
use lib.ListN.{length, get_or, take, replicate, get_or-eq_default}
use lib.Seq.{sets}
use borrow.Author.Tests.{ne_eqb, ltb-true, ltb-false}
use Rattle.digits.proofs.Stores.{sets-taken}
use Rattle.refusals.specs.declared.Reason.TheVariants.{InvalidMoment}
use Rattle.refusals.specs.Answers.{Answer, given, refused, refuse, and_then}
use Rattle.calendar.specs.Moments.{is_moment}
use Rattle.calendar.specs.declared.moments.Moment.{Moment}
use Rattle.lexer.specs.Keywords.{words_in}
use Rattle.lexer.specs.declared.reading.Reading.{Reading}
use Rattle.numbers.specs.Slices.{one_if}
use Rattle.ready.specs.Ready.{ReadyPhrase, ready_of}
use Rattle.board.specs.Boards.{Memory, memory, Done, done, memory_after, row_in, state_of, is_filled, make_of, add_of, remove_of, again_of, head_of, order_of}
use Rattle.board.specs.Rows.{slot_of}
use Rattle.board.specs.Scans.{Sized, IsBoard, scan_of, times_in, Before}
use Rattle.board.proofs.Heads.{head_scan}
use Rattle.board.proofs.Kept.{make_keeps, again_keeps, remove_keeps, add-keeps, order_once}
use Rattle.board.proofs.InOrder.{order_before}
use Rattle.fuzzydate.specs.Called.{reading_of, ready_in, code_of, added_code, head_code, head_after}
use Rattle.fuzzydate.proofs.BoardNumbers.{order_few}
use Rattle.agreed.specs.Calls.{number, size}
use Rattle.agreed.specs.Boards.{Make, Add, Remove, Again, Changed, by_make, by_add, by_remove, by_again, Made, new, then, Head, Order}
use Rattle.agreed.proofs.AnyNow.{tells}

-- a call answers and leaves what a definition says of the memory before it
abbrev pub Says : (Answer Done → ℕ) → (Memory → Answer Done) → Memory → ℕ → Memory → Type 0
Says code f m k m' = (k ≡ code (f m)) × (m' ≡ memory_after m (f m))

pub make_says : {n : Moment} {m m' : Memory} {k : ℕ} → Make n m k m' → Says code_of (λ x. make_of x n) m k m'
make_says c =
    let s =
    tells code_of (λ w l. memory_after l w) (λ g l. make_of l g)
    (λ κs a e k g l h p. record { number_is = p.0 l.ready l.keys; array'_is = p.1 l.ready l.keys }) c in
    (s.number_is, s.array'_is)

pub add-says : {reading : ℕ} {phrase : List ℕ} {m m' : Memory} {k : ℕ} → Add reading phrase m k m' → Says added_code (λ x. add_of x (ready_in reading phrase)) m k m'
add-says c =
    let s =
    tells added_code (λ w l. memory_after l w) (λ g l. add_of l (ready_in g.0 g.1))
    (λ κs a e k g l h p. record { number_is = p.0; array'_is = p.1 }) c in
    (s.number_is, s.array'_is)

pub remove_says : {s : ℕ} {m m' : Memory} {k : ℕ} → Remove s m k m' → Says code_of (λ x. remove_of x s) m k m'
remove_says c =
    let s =
    tells code_of (λ w l. memory_after l w) (λ g l. remove_of l g)
    (λ κs a e k g l h p. record { number_is = p.0 l.ready; array'_is = p.1 l.ready }) c in
    (s.number_is, s.array'_is)

pub again_says : {n : Moment} {m m' : Memory} {k : ℕ} → Again n m k m' → Says code_of (λ x. again_of x n) m k m'
again_says c =
    let s =
    tells code_of (λ w l. memory_after l w) (λ g l. again_of l g)
    (λ κs a e k g l h p.
    record {
      number_is = p.0;
      array'_is = rw (← (ap (λ (x : Memory). x.ready) h), ← (ap (λ (x : Memory). x.lengths) h)) p.1;
    }) c in
    (s.number_is, s.array'_is)

-- what is answered of a refusal is not 0, and the memory stays
leaves :
    (code : Answer Done → ℕ) → ((d : Done) → number (code (given d)) ≡ 0) → (w : Answer Done) {m m' : Memory} {k : ℕ} →
    (k ≡ code w) × (m' ≡ memory_after m w) → (number k ≡ 0 → ⊥) → m' ≡ m
leaves code none (given d) says other = absurd (other (ap number says.0 ∙ none d))
leaves code none (refused r) says other = says.1

-- "A refused call leaves board and order as before, and a refused new now (8) too", every byte of any memory
pub refused_leaves : {m m' : Memory} {k : ℕ} → Changed m k m' → (number k ≡ 0 → ⊥) → m' ≡ m
refused_leaves {m} (by_make {n} c) other = leaves code_of (λ d. refl) (make_of m n) (make_says c) other
refused_leaves {m} (by_add {reading} {phrase} c) other =
    leaves added_code (λ d. omega arith) (add_of m (ready_in reading phrase)) (add-says c) other
refused_leaves {m} (by_remove {s} c) other = leaves code_of (λ d. refl) (remove_of m s) (remove_says c) other
refused_leaves {m} (by_again {n} c) other = leaves code_of (λ d. refl) (again_of m n) (again_says c) other

-- a board is one behind a call too
kept : {m m' : Memory} (w : Answer Done) → m' ≡ memory_after m w → IsBoard m → ((d : Done) → w ≡ given d → IsBoard d.after) → IsBoard m'
kept (given d) e board keeps = subst IsBoard (sym e) (keeps d refl)
kept (refused r) e board keeps = subst IsBoard (sym e) board

ready_keeps :
    (m : Memory) (reading : Reading) (s : List ℕ) (w : ReadyPhrase) {d : Done} → ready_of reading (words_in reading) s ≡ w → IsBoard m →
    add_of m w ≡ given d → IsBoard d.after
unfolding add_of
ready_keeps m reading s (given ss) made board e = add-keeps m reading s ss made board e
ready_keeps m reading s (refused r) made board e = let z : ◌≡◌ {A = ℕ} 0 1 = cc in absurd (omega arith)

reading_keeps :
    (m : Memory) (w : Answer Reading) (s : List ℕ) {d : Done} → IsBoard m →
    add_of m (and_then w (λ reading. ready_of reading (words_in reading) s)) ≡ given d → IsBoard d.after
unfolding add_of
reading_keeps m (given reading) s board e = ready_keeps m reading s (ready_of reading (words_in reading) s) refl board e
reading_keeps m (refused r) s board e = let z : ◌≡◌ {A = ℕ} 0 1 = cc in absurd (omega arith)

changed_board : {m m' : Memory} {k : ℕ} → IsBoard m → Changed m k m' → IsBoard m'
changed_board {m} board (by_make {n} c) = kept _ (make_says c).1 board (λ d e. make_keeps m n board.sized e)
changed_board {m} board (by_add {reading} {phrase} c) =
    kept _ (add-says c).1 board (λ d e. reading_keeps m (reading_of reading) phrase board e)
changed_board {m} board (by_remove {s} c) = kept _ (remove_says c).1 board (λ d e. remove_keeps m s board e)
changed_board {m} board (by_again {n} c) = kept _ (again_says c).1 board (λ d e. again_keeps m n board e)

new_board : {n : Moment} {m m' : Memory} → Sized m → Make n m 0 m' → IsBoard m'
unfolding make_of
new_board {n} {m} {m'} sized c = go (is_moment n) refl (make_says c)
  where
    empty : Memory
    empty = memory m.ready (replicate 256 0) m.keys (state_of n 0)

    go : (b : Bool) → is_moment n ≡ b → let w = cond b (done 0 empty) (refuse InvalidMoment 0 0) in (0 ≡ code_of w) × (m' ≡ memory_after m w) → IsBoard m'
    go true e says = subst IsBoard (sym says.1) (make_keeps m n {d = record { number = 0; after = empty }} sized (rw e))
    go false e says = absurd (omega (arith, says.0))

-- a board made by the calls is one: "Adding, removing and running all again at a new now keep it right"
pub made_board : {m : Memory} → Made m → IsBoard m
made_board (new sized c) = new_board sized c
made_board (then made c) = changed_board (made_board made) c

-- "The head of the order equals what a scan of all reminders would give, ties by lower slot"
pub head_scanned :
    {m : Memory} {array array' : List ℕ} {k : ℕ} → Made m → Head m array k array' → (k ≡ head_code (scan_of m)) × (array' ≡ head_after (scan_of m) array)
head_scanned {m} made c =
    let s =
    tells head_code head_after (λ g l. head_of g)
    (λ κs a e k g l h p. record { number_is = p.0 g.ready g.lengths; array'_is = p.1 g.ready g.lengths }) c in
    rw (← (head_scan m (made_board made))) (s.number_is, s.array'_is)

-- the slots that asking for the order wrote
order_read : {m : Memory} {slots slots' : List ℕ} {k : ℕ} → Order m slots k slots' → take (size k) slots' ≡ order_of m
order_read {m} {slots} {slots'} {k} c =
    let says =
    tells (λ (w : List ℕ). 4294967296 * length w) (λ w l. sets l 0 w) (λ g l. order_of g)
    (λ κs a e k g l h p. record { number_is = p.0 g.ready g.lengths; array'_is = p.1 g.ready g.lengths }) c.call in
    let count : length (order_of m) ≡ size k = omega (arith, says.number_is) in
    rw says.array'_is (sets-taken (order_of m) slots (omega (arith, order_few m, c.numbers)) (size k) count)

-- no slot of a key is 256 or above
none_above : (s : ℕ) → 256 ≤ s → (l : List ℕ) → times_in s (map slot_of l) ≡ 0
none_above s h [] = refl
none_above s h (x ∷ l) = rw (ne_eqb (slot_of x) s (λ e. omega (arith, h, e)), none_above s h l)

-- "the whole order holds each filled slot once", and no other number
pub ordered_once :
    {m : Memory} {slots slots' : List ℕ} {k : ℕ} → Made m → Order m slots k slots' → (s : ℕ) → times_in s (take (size k) slots') ≡ one_if (is_filled m s)
unfolding order_of
ordered_once {m} made c s = rw (order_read c) (go (ltb s 256) refl)
  where
    go : (b : Bool) → ltb s 256 ≡ b → times_in s (order_of m) ≡ one_if (is_filled m s)
    go true e = order_once m (made_board made) s (ltb-true s 256 e)
    go false e =
        let above : 256 ≤ s = ltb-false s 256 e in
        let free : get_or m.lengths s 0 ≡ 0 = get_or-eq_default m.lengths 0 (omega (arith, above, (made_board made).sized.lengths)) in
        none_above s above (row_in m) ∙ sym (ap (λ (n : ℕ). one_if (not (eqb n 0))) free)

-- "an order by moment", "ties by lower slot", and those that refuse "last, by slot": each slot stands before the next one
pub ordered_before :
    {m : Memory} {slots slots' : List ℕ} {k : ℕ} → Made m → Order m slots k slots' → let l = take (size k) slots' in
    (i : ℕ) → suc i < length l → Before m (get_or l i 0) (get_or l (suc i) 0)
ordered_before {m} made c i h = rw (order_read c) (order_before m (made_board made) i (rw (order_read c) at h))
