-- What each call of apps does to a board's reminders. Assumes nothing.
use Prim.Native.Nat.{ℕ}
use native.Mathlib.Omega.{arith}
use mathlib.Core.Path.{◌≡◌, refl, sym, ap, ◌∙◌}
use mathlib.Core.Bool.{Bool, true, false, cond, ◌&&◌}
use mathlib.Core.List.{List}
use lib.Dec.{ltb}
use lib.ListN.{length, replicate}
use lib.Seq.{sets}
use borrow.Author.Tests.{lt-ltb}
use Rattle.refusals.specs.declared.Reason.TheVariants.{InvalidMoment, EmptySlot}
use Rattle.refusals.specs.Answers.{Answer, given, refused, refuse, and_then}
use Rattle.calendar.specs.Moments.{is_moment}
use Rattle.calendar.specs.declared.moments.Moment.{Moment}
use Rattle.lexer.specs.Keywords.{words_in}
use Rattle.lexer.specs.declared.reading.Reading.{Reading}
use Rattle.answer.specs.Answer.{answer_of}
use Rattle.ready.specs.Ready.{ReadyPhrase, ready_of}
use Rattle.steps.specs.declared.plan.Step.{Step}
use Rattle.board.specs.Boards.{Memory, memory, Done, done, memory_after, state_of, is_filled, removed, order_at, make_of, add_of, remove_of, again_of}
use Rattle.board.specs.Scans.{IsBoard, Put}
use Rattle.board.proofs.Kept.{make_empties, again_moves, remove_takes, add-puts, add-full}
use Rattle.fuzzydate.specs.Called.{reading_of, answer_in, code_of, added_code}
use Rattle.agreed.specs.Calls.{size}
use Rattle.agreed.specs.Boards.{Make, Add, Remove, Again, Made, Makes, empty, unmade, Adds, put, full, unready, Removes, out, nothing, Moves, moved, unmoved}
use Rattle.agreed.proofs.BoardKept.{make_says, add-says, remove_says, again_says, made_board}

-- "A board is made empty at a valid now, else 8."
pub make_makes : {n : Moment} {m m' : Memory} {k : ℕ} → Make n m k m' → Makes n m k m'
unfolding make_of
make_makes {n} {m} {m'} {k} c = go (is_moment n) refl (make_says c)
  where
    board : Memory
    board = memory m.ready (replicate 256 0) m.keys (state_of n 0)

    go : (b : Bool) → is_moment n ≡ b → let w = cond b (done 0 board) (refuse InvalidMoment 0 0) in (k ≡ code_of w) × (m' ≡ memory_after m w) → Makes n m k m'
    go true e says = rw (says.0, says.1) (empty {m' = board} e (make_empties m n {d = record { number = 0; after = board }} (rw e)))
    go false e says = rw (says.0, says.1) (unmade e)

-- "running all again at a new now", and "a refused new now (8)"
pub again_moves_all : {n : Moment} {m m' : Memory} {k : ℕ} → Again n m k m' → Moves n m k m'
unfolding again_of
again_moves_all {n} {m} {m'} {k} c = go (is_moment n) refl (again_says c)
  where
    board : Memory
    board = memory m.ready m.lengths (sets m.keys 0 (order_at m n)) (state_of n (length (order_at m n)))

    go : (b : Bool) → is_moment n ≡ b → let w = cond b (done 0 board) (refuse InvalidMoment 0 0) in (k ≡ code_of w) × (m' ≡ memory_after m w) → Moves n m k m'
    go true e says = rw (says.0, says.1) (moved {m' = board} e (again_moves m n {d = record { number = 0; after = board }} (rw e)))
    go false e says = rw (says.0, says.1) (unmoved e)

-- "25 for a slot that holds nothing"
pub remove_removes : {s : ℕ} {m m' : Memory} {k : ℕ} → Made m → Remove s m k m' → Removes s m k m'
unfolding remove_of
remove_removes {s} {m} {m'} {k} made c = go (ltb s 256 && is_filled m s) refl (remove_says c)
  where
    go : (b : Bool) → (ltb s 256 && is_filled m s) ≡ b →
        let w = cond b (done s (removed m s)) (refuse EmptySlot 0 0) in
        (k ≡ code_of w) × (m' ≡ memory_after m w) → Removes s m k m'
    go true e says = rw (says.0, says.1) (out {m' = removed m s} (remove_takes m s {d = record { number = s; after = removed m s }} (made_board made).sized (rw e)))
    go false e says = rw (says.0, says.1) (nothing (λ h. rw (lt-ltb s 256 h) at e))

module _ {reading : ℕ} {phrase : List ℕ} {m m' : Memory} {k : ℕ} (board : IsBoard m) where
  -- a phrase that was made ready
  adds_ready :
      (chosen : Reading) → reading_of reading ≡ given chosen → (ss : List Step) → ready_of chosen (words_in chosen) phrase ≡ given ss →
      (w : Answer Done) → add_of m (given ss) ≡ w → (k ≡ added_code w) × (m' ≡ memory_after m w) → Adds reading phrase m k m'
  adds_ready chosen e ss made (given d) f says =
      let into = add-puts m chosen phrase ss made board.sized f in
      let slot : d.number ≡ size k = omega (arith, says.0) in
      let here : Put (answer_in reading phrase) d.number m d.after =
      record {
        here = into.here;
        free = into.free;
        lowest = into.lowest;
        filled = into.filled;
        gives = λ n. into.gives n ∙ sym (ap (λ (r : Answer Reading). and_then r (λ x. answer_of x (words_in x) phrase n)) e);
        others = into.others;
      } in
      put {k = k} {m' = m'} (omega (arith, says.0)) (rw (says.1, ← slot) here)
  adds_ready chosen e ss made (refused r) f says =
      let none = add-full m ss board f in
      rw (says.0, says.1, none.0) (full {ss = ss} (rw (e, made)) none.1)

  -- a phrase in a reading
  adds_in :
      (chosen : Reading) → reading_of reading ≡ given chosen → (w : ReadyPhrase) → ready_of chosen (words_in chosen) phrase ≡ w →
      (k ≡ added_code (add_of m w)) × (m' ≡ memory_after m (add_of m w)) → Adds reading phrase m k m'
  unfolding add_of
  adds_in chosen e (given ss) made says = adds_ready chosen e ss made (add_of m (given ss)) refl says
  adds_in chosen e (refused r) made says = rw (says.0, says.1) (unready {r = r} (rw (e, made)))

  adds_by :
      (w : Answer Reading) → reading_of reading ≡ w → let p = and_then w (λ x. ready_of x (words_in x) phrase) in
      (k ≡ added_code (add_of m p)) × (m' ≡ memory_after m (add_of m p)) → Adds reading phrase m k m'
  unfolding add_of
  adds_by (given chosen) e says = adds_in chosen e (ready_of chosen (words_in chosen) phrase) refl says
  adds_by (refused r) e says = rw (says.0, says.1) (unready {r = r} (rw e))

-- "A removed slot is used again, lowest first"; "24 for a full board, after a phrase's own 1 to 7"
pub add-adds : {reading : ℕ} {phrase : List ℕ} {m m' : Memory} {k : ℕ} → Made m → Add reading phrase m k m' → Adds reading phrase m k m'
add-adds {reading} made c = adds_by (made_board made) (reading_of reading) refl (add-says c)
