-- Making a board gives a right one, and every call keeps it right.
use Prim.Native.Nat.{ℕ, zero, suc, ◌+◌, ◌*◌, ◌≤◌, ◌<◌, min}
use native.Mathlib.Omega.{arith}
use mathlib.Core.Path.{◌≡◌, refl, ap, sym, ◌∙◌}
use mathlib.Core.Bool.{Bool, true, false, cond, ◌&&◌, and-eq-true_iff}
use mathlib.Core.List.{List, [], ◌∷◌, map}
use lib.Dec.{ltb}
use lib.ListN.{length, get_or, take, set, replicate, length-replicate, length-set}
use lib.Seq.{sets, length-sets, length-take-le, get_or-set_same, get_or-set_other}
use borrow.Author.Tests.{eq-eqb, ne_eqb, ltb-true, ltb-false}
use Rattle.refusals.specs.declared.Reason.TheVariants.{FullBoard}
use Rattle.refusals.specs.Answers.{given, refused, refusal_at, refuse, and_then}
use Rattle.refusals.specs.declared.Refusal.{Refusal}
use Rattle.refusals.proofs.Holds.{given_holds}
use Rattle.digits.proofs.Order.{Tri, tri, below, equal, above}
use Rattle.digits.proofs.Stores.{sets-taken}
use Rattle.calendar.specs.Moments.{is_moment, moment_in}
use Rattle.calendar.specs.declared.moments.Moment.{Moment}
use Rattle.lexer.specs.Keywords.{words_in}
use Rattle.lexer.specs.declared.reading.Reading.{Reading}
use Rattle.steps.specs.Running.{is_list}
use Rattle.steps.specs.declared.plan.Step.{Step}
use Rattle.steps.proofs.Small.{all_smaller}
use Rattle.answer.specs.Answer.{placed, answer_of}
use Rattle.ready.specs.Ready.{ready_of}
use Rattle.ready.proofs.ReadyPhrases.{made_ready, ready_answers}
use Rattle.records.specs.Records.{encode_of}
use Rattle.records.proofs.Lists.{length-encoded, decoded_back}
use Rattle.numbers.specs.Slices.{one_if}
use Rattle.board.specs.Rows.{insert, slot_of, without}
use Rattle.board.specs.Boards.{Memory, memory, Done, done, count_in, state_of, row_in, is_filled, phrase_at, outcome_at, key_at, keys_from, order_at}
use Rattle.board.specs.Boards.{make_of, free_slot, slot_for, filled, entered, add_of, removed, remove_of, again_of, order_of}
use Rattle.board.specs.Scans.{times_in, Held, Sized, IsBoard, Empty, MovedTo, Others, Put, TakenOut}
use Rattle.board.proofs.Keys.{length-insert, length_without}
use Rattle.board.proofs.Orders.{Alike, order_few, order_filled, order_emptied, each_once}
use Rattle.board.proofs.Free.{Free, free_slot_lem, full_filled}
use Rattle.board.proofs.Anew.{order_anywhere}
use Rattle.board.proofs.Bytes.{own_slot, other_slot}

-- "Moments are those of demand 2 at the board's now": at every now a held reminder gives what its phrase gives
pub held-answers :
    {m : Memory} {s : ℕ} (h : Held m s) (n : Moment) → placed (outcome_at m n s) ≡ answer_of h.reading (words_in h.reading) h.phrase n
held-answers h n =
    let made = given_holds (made_ready h.reading h.phrase) h.made in
    let back = decoded_back h.steps made.most (all_smaller (omega arith) made.small) in
    rw (h.bytes, back) (rw h.made at (ready_answers h.reading h.phrase n))

differ : ◌≡◌ {A = Bool} true false → ⊥
differ z = let y : ◌≡◌ {A = ℕ} 0 1 = cc in omega arith

-- a call that isn't refused was taken
taken : {A : Type 0} (b : Bool) (d : A) (r : Refusal) {x : A} → cond b (given d) (refused r) ≡ given x → (b ≡ true) × (d ≡ x)
taken true d r e = (refl, cc)
taken false d r e = let z : ◌≡◌ {A = ℕ} 0 1 = cc in absurd (omega arith)

-- a row that was stored is read, with its count
record Stored (keys row : List ℕ) (k : ℕ) : Type 0 where
  few : length row ≤ 256
  sized : length keys ≡ 256
  count : k ≡ length row

stored_row : {keys row : List ℕ} {k : ℕ} → Stored keys row k → take (min k 256) (sets keys 0 row) ≡ row
stored_row {keys} {row} {k} h =
    let size : length row ≡ min k 256 = omega (arith, h.few, h.count) in
    sets-taken row keys (omega (arith, h.few, h.sized)) (min k 256) size

-- no slot filled
none_filled : (m : Memory) (n : Moment) → ((i : ℕ) → is_filled m i ≡ false) → (k i : ℕ) → keys_from m n k i ≡ []
unfolding keys_from
none_filled m n h zero i = refl
none_filled m n h (suc k) i = rw (h i) (none_filled m n h k (suc i))

zeros : (k i : ℕ) → ◌≡◌ {A = ℕ} (get_or (replicate k 0) i 0) 0
zeros zero zero = refl
zeros zero (suc i) = refl
zeros (suc k) zero = refl
zeros (suc k) (suc i) = zeros k i

order_none : (m : Memory) (n : Moment) → ((i : ℕ) → is_filled m i ≡ false) → order_at m n ≡ []
unfolding order_at
order_none m n h = rw (none_filled m n h 256 0)

-- "A board is made empty at a valid now"
pub make_empties : (m : Memory) (n : Moment) {d : Done} → make_of m n ≡ given d → Empty n d.after
unfolding make_of
make_empties m n e =
    let ok = taken (is_moment n) _ _ e in
    rw (← ok.1) (record { now = refl; free = λ s. rw (eq-eqb _ 0 (zeros 256 s)) })

pub make_keeps : (m : Memory) (n : Moment) {d : Done} → Sized m → make_of m n ≡ given d → IsBoard d.after
unfolding make_of
make_keeps m n sized e =
    let ok = taken (is_moment n) _ _ e in
    let m' = memory m.ready (replicate 256 0) m.keys (state_of n 0) in
    let free = (rw (← ok.1) at (make_empties m n e)).free in
    let order = order_none m' n free in
    let board : IsBoard m' =
    record {
      sized = record { ready = sized.ready; lengths = length-replicate {A = ℕ} 256 0; keys = sized.keys; state = refl };
      now = ok.0;
      held = λ s f. let z : ◌≡◌ {A = Bool} true false = sym f ∙ free s in absurd (differ z);
      row = sym order;
      count = sym (ap (λ (l : List ℕ). length l) order);
    } in
    rw (← ok.1) board

-- "running all again at a new now"
pub again_moves : (m : Memory) (n : Moment) {d : Done} → again_of m n ≡ given d → MovedTo n m d.after
unfolding again_of
again_moves m n e = rw (← (taken (is_moment n) _ _ e).1) (record { now = refl; ready = refl; lengths = refl })

pub again_keeps : (m : Memory) (n : Moment) {d : Done} → IsBoard m → again_of m n ≡ given d → IsBoard d.after
unfolding again_of
again_keeps m n board e =
    let ok = taken (is_moment n) _ _ e in
    let size = board.sized in
    let row = order_at m n in
    let m' = memory m.ready m.lengths (sets m.keys 0 row) (state_of n (length row)) in
    let same : order_at m' n ≡ row =
    order_anywhere m.ready m.lengths (sets m.keys 0 row) (state_of n (length row)) n
    ∙ sym (order_anywhere m.ready m.lengths m.keys m.state n) in
    let board' : IsBoard m' =
    record {
      sized = record { ready = size.ready; lengths = size.lengths; keys = length-sets m.keys 0 row ∙ size.keys; state = refl };
      now = ok.0;
      held = λ s f. let h = board.held s f in record { reading = h.reading; phrase = h.phrase; steps = h.steps; made = h.made; bytes = h.bytes };
      row = stored_row (record { few = order_few m n; sized = size.keys; count = refl }) ∙ sym same;
      count = sym (ap (λ (l : List ℕ). length l) same);
    } in
    rw (← ok.1) board'

-- another count leaves the now
count_now : (l : List ℕ) (k : ℕ) → moment_in (set l 7 k) ≡ moment_in l
count_now l k =
    rw (
      get_or-set_other l 7 0 k 0 (λ e. omega arith),
      get_or-set_other l 7 1 k 0 (λ e. omega arith),
      get_or-set_other l 7 2 k 0 (λ e. omega arith),
      get_or-set_other l 7 3 k 0 (λ e. omega arith),
      get_or-set_other l 7 4 k 0 (λ e. omega arith),
      get_or-set_other l 7 5 k 0 (λ e. omega arith),
      get_or-set_other l 7 6 k 0 (λ e. omega arith),
    )

module _ {m m' : Memory} {s : ℕ} (change : Others m m' s) where
  change_alike : (n : Moment) → Alike m m' n s
  unfolding key_at
  change_alike n = record { filled = λ i ne. rw (change.lengths i ne); keys = λ i ne. rw (change.phrases i ne) }

  -- what the other slots hold
  change_held : ((i : ℕ) → is_filled m i ≡ true → Held m i) → (is_filled m' s ≡ true → Held m' s) → (i : ℕ) → is_filled m' i ≡ true → Held m' i
  change_held held own i f = go (tri i s)
    where
      still : (i ≡ s → ⊥) → Held m' i
      still ne =
          let h = held i (rw (change.lengths i ne) at f) in
          record { reading = h.reading; phrase = h.phrase; steps = h.steps; made = h.made; bytes = change.phrases i ne ∙ h.bytes }

      go : Tri i s → Held m' i
      go (below l) = still (λ e. omega arith)
      go (equal e) = rw e (own (rw e at f))
      go (above l) = still (λ e. omega arith)

  -- a right board again, where the row that is stored is the order
  change_board :
      {keys row : List ℕ} → IsBoard m → Sized m' → (is_filled m' s ≡ true → Held m' s) → m'.keys ≡ sets keys 0 row →
      Stored keys row (get_or m'.state 7 0) → row ≡ order_at m' (moment_in m.state) → IsBoard m'
  change_board board sized own stored kept order =
      let same = change.now in
      record {
        sized = sized;
        now = ap is_moment same ∙ board.now;
        held = change_held board.held own;
        row = ap (take (count_in m'.state)) stored ∙ stored_row kept ∙ order ∙ ap (order_at m') (sym same);
        count = kept.count ∙ ap (λ (l : List ℕ). length l) order ∙ ap (λ (n : Moment). length (order_at m' n)) (sym same);
      }

taken_out : (m : Memory) (s : ℕ) → Sized m → s < 256 → is_filled m s ≡ true → TakenOut s m (removed m s)
taken_out m s size here held =
    record {
      filled = held;
      free = rw (eq-eqb _ 0 (get_or-set_same m.lengths s 0 0 (omega (arith, size.lengths))));
      others =
          record {
            now = count_now m.state (length (without s (row_in m)));
            lengths = λ i ne. get_or-set_other m.lengths s i 0 0 ne;
            phrases = λ i ne. rw (get_or-set_other m.lengths s i 0 0 ne);
          };
    }

removed_board : (m : Memory) (s : ℕ) → IsBoard m → TakenOut s m (removed m s) → IsBoard (removed m s)
removed_board m s board out =
    let size = board.sized in
    let row = without s (row_in m) in
    let few : length row ≤ 256 =
    omega (arith, length_without s (row_in m), ap (λ (l : List ℕ). length l) board.row, order_few m (moment_in m.state)) in
    change_board out.others board
    (record {
      ready = size.ready;
      lengths = length-set m.lengths s 0 ∙ size.lengths;
      keys = length-sets m.keys 0 row ∙ size.keys;
      state = length-set m.state 7 (length row) ∙ size.state;
    })
    (λ f. absurd (differ (sym f ∙ out.free)))
    refl
    (record { few = few; sized = size.keys; count = get_or-set_same m.state 7 (length row) 0 (omega (arith, size.state)) })
    (ap (without s) board.row ∙ order_emptied (change_alike out.others (moment_in m.state)) out.free)

-- one reminder less
pub remove_takes : (m : Memory) (s : ℕ) {d : Done} → Sized m → remove_of m s ≡ given d → TakenOut s m d.after
unfolding remove_of
remove_takes m s size e =
    let ok = taken (ltb s 256 && is_filled m s) _ _ e in
    let both = (and-eq-true_iff (ltb s 256) (is_filled m s)).0 ok.0 in
    rw (← ok.1) (taken_out m s size (ltb-true s 256 both.0) both.1)

pub remove_keeps : (m : Memory) (s : ℕ) {d : Done} → IsBoard m → remove_of m s ≡ given d → IsBoard d.after
unfolding remove_of
remove_keeps m s board e =
    let ok = taken (ltb s 256 && is_filled m s) _ _ e in
    rw (← ok.1) (removed_board m s board (rw (← ok.1) at (remove_takes m s board.sized e)))

-- a list that was made has a step
some : (ss : List Step) → is_list ss ≡ true → 0 < length ss
some [] e = absurd (differ (sym e))
some (x ∷ ss) e = omega arith

-- the key that was entered is the one at the end
key_entered : (m : Memory) (n : Moment) (s : ℕ) → key_at (entered m s) n s ≡ key_at m n s
unfolding key_at
key_entered m n s = refl

module _ (m : Memory) (reading : Reading) (phrase : List ℕ) (ss : List Step) (made : ready_of reading (words_in reading) phrase ≡ given ss) where
  -- the slot with its phrase, and the key in the row
  abbrev joined : ℕ → Memory
  joined s = entered (filled m s (encode_of ss)) s

  small : length (encode_of ss) ≤ 384
  small = omega (arith, length-encoded ss, (given_holds (made_ready reading phrase) made).most)

  own_length : (s : ℕ) → Sized m → Free m s → get_or (joined s).lengths s 0 ≡ length (encode_of ss)
  own_length s size free = get_or-set_same m.lengths s (length (encode_of ss)) 0 (omega (arith, size.lengths, free.here))

  own_bytes : (s : ℕ) → Sized m → Free m s → phrase_at (joined s) s ≡ encode_of ss
  own_bytes s size free =
      let p = encode_of ss in
      let least : min (length p) 384 ≡ length p = omega (arith, small) in
      rw (own_length s size free, least) (own_slot m.ready p s (omega (arith, small, size.ready, free.here)))

  abbrev now-held : (s : ℕ) → Sized m → Free m s → Held (joined s) s
  now-held s size free = record { reading = reading; phrase = phrase; steps = ss; made = made; bytes = own_bytes s size free }

  put_in : (s : ℕ) → Sized m → Free m s → Put (answer_of reading (words_in reading) phrase) s m (joined s)
  put_in s size free =
      let p = encode_of ss in
      let none : length p ≡ 0 → ⊥ = λ z. omega (arith, length-encoded ss, some ss (given_holds (made_ready reading phrase) made).list) in
      record {
        here = free.here;
        free = free.empty;
        lowest = free.lowest;
        filled = rw (own_length s size free, ne_eqb (length p) 0 none);
        gives = λ n. held-answers (now-held s size free) n;
        others =
            record {
              now = count_now m.state (count_in m.state + 1);
              lengths = λ i ne. get_or-set_other m.lengths s i (length p) 0 ne;
              phrases = λ i ne.
                  rw (get_or-set_other m.lengths s i (length p) 0 ne)
                  (other_slot m.ready p s i (min (get_or m.lengths i 0) 384) ne small (omega arith));
            };
      }

  added-board : (s : ℕ) → IsBoard m → Free m s → IsBoard (joined s)
  added-board s board free =
      let size = board.sized in
      let p = encode_of ss in
      let n = moment_in m.state in
      let m₁ = filled m s p in
      let row = insert (key_at m₁ n s) (row_in m) in
      let put = put_in s size free in
      let order = order_filled (change_alike put.others n) free.empty put.filled free.here in
      let count : length (row_in m) ≡ count_in m.state = length-take-le (count_in m.state) m.keys (omega (arith, size.keys)) in
      let longer : length row ≡ suc (length (row_in m)) = length-insert (key_at m₁ n s) (row_in m) in
      let state = get_or-set_same m.state 7 (count_in m.state + 1) 0 (omega (arith, size.state)) in
      change_board put.others board
      (record {
        ready = length-sets m.ready (384 * s) p ∙ size.ready;
        lengths = length-set m.lengths s (length p) ∙ size.lengths;
        keys = length-sets m.keys 0 row ∙ size.keys;
        state = length-set m.state 7 (count_in m.state + 1) ∙ size.state;
      })
      (λ f. now-held s size free)
      refl
      (record { few = omega (arith, free.room); sized = size.keys; count = state ∙ omega arith })
      (ap (insert (key_at m₁ n s)) board.row ∙ sym (order ∙ ap (λ (k : ℕ). insert k (order_at m n)) (key_entered m₁ n s)))

  -- a reminder that was added went to the free slot
  joined_free : {d : Done} → add_of m (given ss) ≡ given d → (free_slot m < 256) × (joined (free_slot m) ≡ d.after) × (free_slot m ≡ d.number)
  unfolding add_of slot_for
  joined_free {d} e = go (ltb (free_slot m) 256) refl e
    where
      go : (b : Bool) → ltb (free_slot m) 256 ≡ b →
          and_then (cond b (given (free_slot m)) (refuse FullBoard 0 0)) (λ s. done s (joined s)) ≡ given d →
          (free_slot m < 256) × (joined (free_slot m) ≡ d.after) × (free_slot m ≡ d.number)
      go true f g = (ltb-true _ _ f, cc, cc)
      go false f g = let z : ◌≡◌ {A = ℕ} 0 1 = cc in absurd (omega arith)

  -- one reminder more
  pub add-puts : {d : Done} → Sized m → add_of m (given ss) ≡ given d → Put (answer_of reading (words_in reading) phrase) d.number m d.after
  add-puts size e =
      let to = joined_free e in
      rw (← to.1, ← to.2) (put_in (free_slot m) size (free_slot_lem m size to.0))

  pub add-keeps : {d : Done} → IsBoard m → add_of m (given ss) ≡ given d → IsBoard d.after
  add-keeps board e =
      let to = joined_free e in
      rw (← to.1) (added-board (free_slot m) board (free_slot_lem m board.sized to.0))

-- "24 for a full board"
pub add-full :
    (m : Memory) (ss : List Step) {r : Refusal} → IsBoard m → add_of m (given ss) ≡ refused r →
    (r ≡ refusal_at FullBoard 0 0) × ((s : ℕ) → s < 256 → is_filled m s ≡ true)
unfolding add_of slot_for
add-full m ss {r} board e = go (ltb (free_slot m) 256) refl e
  where
    go : (b : Bool) → ltb (free_slot m) 256 ≡ b →
        and_then (cond b (given (free_slot m)) (refuse FullBoard 0 0)) (λ s. done s (entered (filled m s (encode_of ss)) s)) ≡ refused r →
        (r ≡ refusal_at FullBoard 0 0) × ((s : ℕ) → s < 256 → is_filled m s ≡ true)
    go true f g = let z : ◌≡◌ {A = ℕ} 0 1 = cc in absurd (omega arith)
    go false f g = (cc, full_filled m board (ltb-false (free_slot m) 256 f))

-- "the whole order holds each filled slot once"
pub order_once : (m : Memory) → IsBoard m → (s : ℕ) → s < 256 → times_in s (order_of m) ≡ one_if (is_filled m s)
unfolding order_of
order_once m board s h = ap (λ (l : List ℕ). times_in s (map slot_of l)) board.row ∙ each_once m (moment_in m.state) s h
