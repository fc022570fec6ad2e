-- What a scan of all reminders gives, and what a board that was made by the calls is.
use Rattle.std.specs.Prelude.{ℕ, zero, suc, ◌+◌, ◌<◌, ◌≡◌, true, false, cond, List, [], ◌∷◌, eqb, ltb, length, get_or}
use Rattle.refusals.specs.declared.Reason.TheVariants.{NothingDue}
use Rattle.refusals.specs.Answers.{Answer, given, refused, refuse}
use Rattle.calendar.specs.Moments.{Outcome, moment, refused as unreached, is_moment, instant_of, moment_in}
use Rattle.calendar.specs.declared.moments.Moment.{Moment}
use Rattle.lexer.specs.Keywords.{words_in}
use Rattle.lexer.specs.declared.reading.Reading.{Reading}
use Rattle.numbers.specs.Slices.{one_if}
use Rattle.answer.specs.Answer.{placed}
use Rattle.ready.specs.Ready.{ready_of}
use Rattle.records.specs.Records.{encode_of}
use Rattle.steps.specs.declared.plan.Step.{Step}
use Rattle.board.specs.declared.Due.{Due}
use Rattle.board.specs.Boards.{board_slots, board_ready_size, Memory, row_in, is_filled, phrase_at, outcome_at, due_of, order_at}

-- what a slot's reminder gives, or the earliest of the slots behind it: "ties by lower slot"
abbrev pub earlier : ℕ → Outcome → Answer Due → Answer Due
earlier s (unreached k) best = best
earlier s (moment t) (refused r) = given (record { slot = s; moment = t })
earlier s (moment t) (given d) = cond (ltb (instant_of d.moment) (instant_of t)) (given d) (given (record { slot = s; moment = t }))

-- the earliest of the filled ones of k slots from slot s on
unfoldable pub scan_from : Memory → ℕ → ℕ → Answer Due
scan_from m zero s = refuse NothingDue 0 0
scan_from m (suc k) s =
    cond (is_filled m s) (earlier s (outcome_at m (moment_in m.state) s) (scan_from m k (suc s))) (scan_from m k (suc s))

-- "what a scan of all reminders would give"
unfoldable pub scan_of : Memory → Answer Due
scan_of m = scan_from m board_slots 0

-- how often a slot stands in a list
abbrev pub times_in : ℕ → List ℕ → ℕ
times_in s [] = 0
times_in s (x ∷ xs) = one_if (eqb x s) + times_in s xs

-- when a slot's reminder is due at the board's now, and behind all instants where it refuses
abbrev pub due_in : Memory → ℕ → ℕ
due_in m s = due_of (outcome_at m (moment_in m.state) s)

-- slot a stands before slot b: "an order by moment", "ties by lower slot", and "entries that refuse at the current now are held last, by slot"
pub data Before (m : Memory) (a b : ℕ) : Type 0 where
  by_moment : due_in m a < due_in m b → Before m a b
  by_slot : due_in m a ≡ due_in m b → a < b → Before m a b

-- a board at a now that holds nothing
pub record Empty (n : Moment) (m : Memory) : Type 0 where
  pub now : moment_in m.state ≡ n
  pub free : (s : ℕ) → is_filled m s ≡ false

-- the same reminders at another now
pub record MovedTo (n : Moment) (m m' : Memory) : Type 0 where
  pub now : moment_in m'.state ≡ n
  pub ready : m'.ready ≡ m.ready
  pub lengths : m'.lengths ≡ m.lengths

-- the board's now, and the reminders of all slots but one, are as before
pub record Others (m m' : Memory) (s : ℕ) : Type 0 where
  pub now : moment_in m'.state ≡ moment_in m.state
  pub lengths : (i : ℕ) → (i ≡ s → ⊥) → get_or m'.lengths i 0 ≡ get_or m.lengths i 0
  pub phrases : (i : ℕ) → (i ≡ s → ⊥) → phrase_at m' i ≡ phrase_at m i

-- a reminder put into a slot, the lowest that was free: at every now it gives what its phrase does
pub record Put (answers : Moment → Answer Moment) (s : ℕ) (m m' : Memory) : Type 0 where
  pub here : s < board_slots
  pub free : is_filled m s ≡ false
  pub lowest : (i : ℕ) → i < s → is_filled m i ≡ true
  pub filled : is_filled m' s ≡ true
  pub gives : (n : Moment) → placed (outcome_at m' n s) ≡ answers n
  pub others : Others m m' s

-- a reminder taken out of a slot
pub record TakenOut (s : ℕ) (m m' : Memory) : Type 0 where
  pub filled : is_filled m s ≡ true
  pub free : is_filled m' s ≡ false
  pub others : Others m m' s

-- a slot that holds a phrase made ready
pub record Held (m : Memory) (s : ℕ) : Type 0 where
  pub reading : Reading
  pub phrase : List ℕ
  pub steps : List Step
  pub made : ready_of reading (words_in reading) phrase ≡ given steps
  pub bytes : phrase_at m s ≡ encode_of steps

-- the arrays that a caller lends
pub record Sized (m : Memory) : Type 0 where
  pub ready : length m.ready ≡ board_ready_size
  pub lengths : length m.lengths ≡ board_slots
  pub keys : length m.keys ≡ board_slots
  pub state : length m.state ≡ 8

-- "Invariant: the order is the sorted list of the filled slots' keys at the board's now"; the now is a moment, and each filled slot holds a phrase made ready
pub record IsBoard (m : Memory) : Type 0 where
  pub sized : Sized m
  pub now : is_moment (moment_in m.state) ≡ true
  pub held : (s : ℕ) → is_filled m s ≡ true → Held m s
  pub row : row_in m ≡ order_at m (moment_in m.state)
  pub count : get_or m.state 7 0 ≡ length (order_at m (moment_in m.state))
