-- A board in the caller's own memory, and what each call makes of it and answers, whatever the memory holds.
use Rattle.std.specs.Prelude.{ℕ, zero, suc, ◌+◌, ◌*◌, ◌/◌, ◌%◌, min, Bool, cond, not, ◌&&◌, List, [], ◌∷◌, map, eqb, ltb, length, get_or, take, drop, set, replicate, Option, Some, None, Result, Ok, Err}
use Rattle.std.proofs.lemmas.List.Edits.{sets}
use Rattle.std.specs.Borrow.{MutBor}
use denote.Triple.Both.{Both}
use Rattle.refusals.specs.declared.Reason.{Reason}
use Rattle.refusals.specs.declared.Reason.TheVariants.{InvalidMoment, FullBoard, EmptySlot, NothingDue}
use Rattle.refusals.specs.declared.Refusal.{Refusal}
use Rattle.refusals.specs.Answers.{Answer, given, refused, refuse, and_then}
use Rattle.calendar.specs.Gregorian.{days}
use Rattle.calendar.specs.Moments.{Outcome, moment, refused as unreached, moment_in, first_moment, with_time, is_moment, on_day, instant_of}
use Rattle.calendar.specs.declared.moments.Moment.{Moment}
use Rattle.steps.specs.Running.{run_of}
use Rattle.ready.specs.Ready.{ReadyPhrase}
use Rattle.records.specs.Records.{ready_size, encode_of, decode_of}
use Rattle.board.specs.declared.Due.{Due}
use Rattle.board.specs.Rows.{insert, sorted, slot_of, without}

-- "up to 256"
abbrev pub board_slots : ℕ
board_slots = 256

-- the bytes of their ready phrases
abbrev pub board_ready_size : ℕ
board_ready_size = 98304

-- "The board's memory is the caller's": slots of `ready_size` bytes, how many bytes each one's ready phrase has (0: it holds nothing), the keys, and
-- "the board's now" as seven numbers with the count of keys behind them
pub record Memory : Type 0 where
  pub ready : List ℕ
  pub lengths : List ℕ
  pub keys : List ℕ
  pub state : List ℕ

abbrev pub memory : List ℕ → List ℕ → List ℕ → List ℕ → Memory
memory ready lengths keys state = record { ready = ready; lengths = lengths; keys = keys; state = state }

-- what a call finds in the four arrays that it is lent
abbrev pub at_entry : {A B C D : Type 0} → Both (MutBor (List ℕ)) A → Both (MutBor (List ℕ)) B → Both (MutBor (List ℕ)) C → Both (MutBor (List ℕ)) D → Memory
at_entry ready lengths keys state = memory ready.entry.now lengths.entry.now keys.entry.now state.entry.now

-- and what it leaves there
abbrev pub at_exit : {A B C D : Type 0} → Both A (MutBor (List ℕ)) → Both B (MutBor (List ℕ)) → Both C (MutBor (List ℕ)) → Both D (MutBor (List ℕ)) → Memory
at_exit ready lengths keys state = memory ready.exit.now lengths.exit.now keys.exit.now state.exit.now

-- how many keys there are, whatever the memory says
abbrev pub count_in : List ℕ → ℕ
count_in state = min (get_or state 7 0) board_slots

-- a now's seven numbers, and the count
abbrev pub state_of : Moment → ℕ → List ℕ
state_of n count = n.year ∷ n.month ∷ n.day ∷ n.hour ∷ n.minute ∷ n.second ∷ n.millisecond ∷ count ∷ []

-- the row of keys
abbrev pub row_in : Memory → List ℕ
row_in m = take (count_in m.state) m.keys

-- whether a slot holds a reminder
abbrev pub is_filled : Memory → ℕ → Bool
is_filled m s = not (eqb (get_or m.lengths s 0) 0)

-- the ready phrase of a slot, of at most `ready_size` bytes
abbrev pub phrase_at : Memory → ℕ → List ℕ
phrase_at m s = take (min (get_or m.lengths s 0) ready_size) (drop (ready_size * s) m.ready)

-- what it gives at a now
abbrev pub outcome_at : Memory → Moment → ℕ → Outcome
outcome_at m n s = run_of (decode_of (phrase_at m s)) n

-- the milliseconds of the years 1 to 9999: "a number above all instants"
abbrev pub instants : ℕ
instants = 86400000 * days

-- when a reminder is due: "entries that refuse at the current now are held last"
abbrev pub due_of : Outcome → ℕ
due_of (moment t) = instant_of t
due_of (unreached k) = instants

-- "the instant in milliseconds times 256 plus the slot": so keys are distinct, in the order of moments, "ties by lower slot", and those that refuse "by slot"
abbrev pub key_of : Outcome → ℕ → ℕ
key_of o s = 256 * due_of o + s

-- the moment of an instant
unfoldable pub at_instant : ℕ → Outcome
at_instant i = on_day (i / 86400000) (with_time (i / 3600000 % 24) (i / 60000 % 60) (i / 1000 % 60) (i % 1000) first_moment)

-- the key of a slot at a now
unfoldable pub key_at : Memory → Moment → ℕ → ℕ
key_at m n s = key_of (outcome_at m n s) s

-- the keys of the filled ones of k slots from slot s on
unfoldable pub keys_from : Memory → Moment → ℕ → ℕ → List ℕ
keys_from m n zero s = []
keys_from m n (suc k) s = cond (is_filled m s) (key_at m n s ∷ keys_from m n k (suc s)) (keys_from m n k (suc s))

-- the order at a now
unfoldable pub order_at : Memory → Moment → List ℕ
order_at m n = sorted (keys_from m n board_slots 0)

-- what a call that isn't refused answers, a slot or 0, and the memory behind it
pub record Done : Type 0 where
  pub number : ℕ
  pub after : Memory

abbrev pub done : ℕ → Memory → Answer Done
done k m = given (record { number = k; after = m })

-- "A refused call leaves board and order as before"
abbrev pub memory_after : Memory → Answer Done → Memory
memory_after m (given d) = d.after
memory_after m (refused r) = m

-- "A board is made empty at a valid now, else 8."
unfoldable pub make_of : Memory → Moment → Answer Done
make_of m n = cond (is_moment n) (done 0 (memory m.ready (replicate board_slots 0) m.keys (state_of n 0))) (refuse InvalidMoment 0 0)

-- the first place of a 0, or the length
abbrev pub lowest_free : List ℕ → ℕ
lowest_free [] = 0
lowest_free (k ∷ ks) = cond (eqb k 0) 0 (suc (lowest_free ks))

-- "A removed slot is used again, lowest first"; `board_slots` for a full board. A row of as many keys is full too: on a board made by the calls no slot is free then.
abbrev pub free_slot : Memory → ℕ
free_slot m = cond (ltb (count_in m.state) board_slots) (lowest_free m.lengths) board_slots

-- "24 for a full board"
unfoldable pub slot_for : Memory → Answer ℕ
slot_for m = cond (ltb (free_slot m) board_slots) (given (free_slot m)) (refuse FullBoard 0 0)

-- a ready phrase put into a slot
abbrev pub filled : Memory → ℕ → List ℕ → Memory
filled m s p = memory (sets m.ready (ready_size * s) p) (set m.lengths s (length p)) m.keys m.state

-- and its key into the row
abbrev pub entered : Memory → ℕ → Memory
entered m s =
    memory m.ready m.lengths (sets m.keys 0 (insert (key_at m (moment_in m.state) s) (row_in m))) (set m.state 7 (count_in m.state + 1))

-- one reminder more: "24 for a full board, after a phrase's own 1 to 7"
unfoldable pub add_of : Memory → ReadyPhrase → Answer Done
add_of m w = and_then w (λ ss. and_then (slot_for m) (λ s. done s (entered (filled m s (encode_of ss)) s)))

-- a slot that holds nothing any more, and its key out of the row
abbrev pub removed : Memory → ℕ → Memory
removed m s =
    memory m.ready (set m.lengths s 0) (sets m.keys 0 (without s (row_in m))) (set m.state 7 (length (without s (row_in m))))

-- one reminder less: "25 for a slot that holds nothing"
unfoldable pub remove_of : Memory → ℕ → Answer Done
remove_of m s = cond (ltb s board_slots && is_filled m s) (done s (removed m s)) (refuse EmptySlot 0 0)

-- "running all again at a new now": "a refused new now (8)" leaves everything
unfoldable pub again_of : Memory → Moment → Answer Done
again_of m n =
    cond (is_moment n) (done 0 (memory m.ready m.lengths (sets m.keys 0 (order_at m n)) (state_of n (length (order_at m n)))))
    (refuse InvalidMoment 0 0)

-- "26 when no entry has a moment"
abbrev pub due_at : ℕ → Outcome → Answer Due
due_at s (moment t) = given (record { slot = s; moment = t })
due_at s (unreached k) = refuse NothingDue 0 0

-- "the head is read without a search": from the first key
unfoldable pub head_of : Memory → Answer Due
head_of m =
    cond (eqb (count_in m.state) 0) (refuse NothingDue 0 0) (due_at (slot_of (get_or m.keys 0 0)) (at_instant (get_or m.keys 0 0 / 256)))

-- "the whole order": the slots of the keys
unfoldable pub order_of : Memory → List ℕ
order_of m = map slot_of (row_in m)

-- the code's answers
abbrev pub done_of : Answer Done → Result (Unit {0}) Reason
done_of (given d) = Ok tt
done_of (refused r) = Err r.reason

abbrev pub added_of : Answer Done → Result ℕ Refusal
added_of (given d) = Ok d.number
added_of (refused r) = Err r

abbrev pub slot_from : Option ℕ → Answer ℕ
slot_from (Some s) = given s
slot_from None = refuse FullBoard 0 0

abbrev pub head_from : Option Due → Answer Due
head_from (Some d) = given d
head_from None = refuse NothingDue 0 0
