-- What the contracts of a board's calls allow: of the memory m before a call, the answer k, and the memory m' behind it.
use Rattle.std.specs.Prelude.{ℕ, ◌<◌, ◌≡◌, true, false, cond, List, eqb, length}
use Rattle.refusals.specs.Table.{number_of}
use Rattle.refusals.specs.declared.Reason.TheVariants.{InvalidMoment, FullBoard, EmptySlot}
use Rattle.refusals.specs.Answers.{given, refused}
use Rattle.refusals.specs.declared.Refusal.{Refusal}
use Rattle.calendar.specs.Moments.{is_moment, moment_in}
use Rattle.calendar.specs.declared.moments.Moment.{Moment}
use Rattle.steps.specs.declared.plan.Step.{Step}
use Rattle.board.specs.Boards.{board_slots, Memory, memory, is_filled}
use Rattle.board.specs.Scans.{Sized, Empty, MovedTo, Put, TakenOut}
use Rattle.fuzzydate.specs.Called.{ready_in, answer_in, code}
use Rattle.fuzzydate.proofs.fuzzy_board_make_in.Reads as make'
use Rattle.fuzzydate.proofs.fuzzy_board_add_in.Reads as add'
use Rattle.fuzzydate.proofs.fuzzy_board_remove_in.Reads as remove'
use Rattle.fuzzydate.proofs.fuzzy_board_again_in.Reads as again'
use Rattle.fuzzydate.proofs.fuzzy_board_head_in.Reads as head'
use Rattle.fuzzydate.proofs.fuzzy_board_order_in.Reads as order'
use Rattle.agreed.specs.Calls.{Called, Read, number, size}

-- `fuzzy_board_make_in` at a now
abbrev pub Make : Moment → Memory → ℕ → Memory → Type 0
Make n m k m' =
    Called make'.Post Moment Memory
    (λ κs a g. moment_in a.1.1.0.now)
    (λ κs a l. memory l.ready a.0.now l.keys a.1.0.now) (λ κs e l. memory l.ready e.0.now l.keys e.1.0.now)
    n m k m'

-- `fuzzy_board_add_in` of a phrase in a reading
abbrev pub Add : ℕ → List ℕ → Memory → ℕ → Memory → Type 0
Add reading phrase m k m' =
    Called add'.Post (ℕ × List ℕ) Memory
    (λ κs a g. let b = a.1.1.1.1 in (b.0, b.1.0.now))
    (λ κs a l. memory a.0.now a.1.0.now a.1.1.0.now a.1.1.1.0.now)
    (λ κs e l. memory e.0.now e.1.0.now e.1.1.0.now e.1.1.1.0.now)
    (reading, phrase) m k m'

-- `fuzzy_board_remove_in` of a slot
abbrev pub Remove : ℕ → Memory → ℕ → Memory → Type 0
Remove s m k m' =
    Called remove'.Post ℕ Memory
    (λ κs a g. a.1.1.1.0)
    (λ κs a l. memory l.ready a.0.now a.1.0.now a.1.1.0.now) (λ κs e l. memory l.ready e.0.now e.1.0.now e.1.1.0.now)
    s m k m'

-- `fuzzy_board_again_in` at a now
abbrev pub Again : Moment → Memory → ℕ → Memory → Type 0
Again n m k m' =
    Called again'.Post Moment Memory
    (λ κs a g. moment_in a.1.1.1.1.0.now)
    (λ κs a l. memory a.0.now a.1.0.now a.1.1.0.now a.1.1.1.0.now)
    (λ κs e l. memory l.ready l.lengths e.1.1.0.now e.1.1.1.0.now)
    n m k m'

-- any of the four
pub data Changed (m : Memory) (k : ℕ) (m' : Memory) : Type 0 where
  by_make : {n : Moment} → Make n m k m' → Changed m k m'
  by_add : {reading : ℕ} {phrase : List ℕ} → Add reading phrase m k m' → Changed m k m'
  by_remove : {s : ℕ} → Remove s m k m' → Changed m k m'
  by_again : {n : Moment} → Again n m k m' → Changed m k m'

-- a board made by the calls: arrays of their sizes, in which a board was made, and changed by any calls, refused ones too
pub data Made : Memory → Type 0 where
  new : {n : Moment} {m m' : Memory} → Sized m → Make n m 0 m' → Made m'
  then : {m m' : Memory} {k : ℕ} → Made m → Changed m k m' → Made m'

-- `fuzzy_board_head_in`, which leaves `array'` in an array that held `array`
abbrev pub Head : Memory → List ℕ → ℕ → List ℕ → Type 0
Head m array k array' =
    Called head'.Post Memory (List ℕ)
    (λ κs a g. memory g.ready g.lengths a.0.now a.1.0.now) (λ κs a l. a.1.1.0.now) (λ κs e l. e.1.1.0.now)
    m array k array'

-- `fuzzy_board_order_in`, which leaves `slots'` in an array of `board_slots` numbers that held `slots`
pub record Order (m : Memory) (slots : List ℕ) (k : ℕ) (slots' : List ℕ) : Type 0 where
  pub numbers : length slots ≡ board_slots
  pub call :
      Called order'.Post Memory (List ℕ)
      (λ κs a g. memory g.ready g.lengths a.0.now a.1.0.now) (λ κs a l. a.1.1.0.now) (λ κs e l. e.1.1.0.now)
      m slots k slots'

-- what making a board may answer and leave: 0 and an empty one, or 8
pub data Makes (n : Moment) (m : Memory) : ℕ → Memory → Type 0 where
  empty : {m' : Memory} → is_moment n ≡ true → Empty n m' → Makes n m 0 m'
  unmade : is_moment n ≡ false → Makes n m (number_of InvalidMoment) m

-- what adding may: the phrase in the lowest free slot, 24 where every slot is filled, or what making ready refuses, before 24
pub data Adds (reading : ℕ) (phrase : List ℕ) (m : Memory) : ℕ → Memory → Type 0 where
  put : {k : ℕ} {m' : Memory} → number k ≡ 0 → Put (answer_in reading phrase) (size k) m m' → Adds reading phrase m k m'
  full : {ss : List Step} → ready_in reading phrase ≡ given ss → ((s : ℕ) → s < board_slots → is_filled m s ≡ true) → Adds reading phrase m (number_of FullBoard) m
  unready : {r : Refusal} → ready_in reading phrase ≡ refused r → Adds reading phrase m (code r) m

-- what removing may: the slot is free, or 25 where it held nothing
pub data Removes (s : ℕ) (m : Memory) : ℕ → Memory → Type 0 where
  out : {m' : Memory} → TakenOut s m m' → Removes s m 0 m'
  nothing : (s < board_slots → is_filled m s ≡ false) → Removes s m (number_of EmptySlot) m

-- what running again may: the same reminders at the now, or 8
pub data Moves (n : Moment) (m : Memory) : ℕ → Memory → Type 0 where
  moved : {m' : Memory} → is_moment n ≡ true → MovedTo n m m' → Moves n m 0 m'
  unmoved : is_moment n ≡ false → Moves n m (number_of InvalidMoment) m

-- what an app knows of a slot: nothing lies there, or the phrase that it added there in the reading of a number
pub data Known : Type 0 where
  nothing_there : Known
  added : ℕ → List ℕ → Known

-- the same of all slots but one
abbrev pub changed_at : ℕ → Known → (ℕ → Known) → ℕ → Known
changed_at s x known i = cond (eqb i s) x (known i)

-- a board made by the calls, beside what the app knows of its slots by the answers it got
pub data Followed : (ℕ → Known) → Memory → Type 0 where
  begun : {n : Moment} {m m' : Memory} → Sized m → Make n m 0 m' → Followed (λ s. nothing_there) m'
  made_again : {known : ℕ → Known} {n : Moment} {m m' : Memory} → Followed known m → Make n m 0 m' → Followed (λ s. nothing_there) m'
  put_there : {known : ℕ → Known} {reading : ℕ} {phrase : List ℕ} {m m' : Memory} {k : ℕ} → Followed known m → Add reading phrase m k m' → number k ≡ 0 →
      Followed (changed_at (size k) (added reading phrase) known) m'
  taken_out : {known : ℕ → Known} {s : ℕ} {m m' : Memory} → Followed known m → Remove s m 0 m' → Followed (changed_at s nothing_there known) m'
  run_again : {known : ℕ → Known} {n : Moment} {m m' : Memory} → Followed known m → Again n m 0 m' → Followed known m'
  left_alone : {known : ℕ → Known} {m m' : Memory} {k : ℕ} → Followed known m → Changed m k m' → (number k ≡ 0 → ⊥) → Followed known m'

-- what is due first is a phrase that the app added: reading it at the board's now gives 0 and the same seven numbers
pub data IsFirst (n : Moment) (array : List ℕ) : Known → Type 0 where
  reads : {reading : ℕ} {phrase : List ℕ} →
      ((hub hub' : List ℕ) (r : ℕ) → Read reading phrase n hub r hub' → (r ≡ 0) × (hub' ≡ array)) → IsFirst n array (added reading phrase)
