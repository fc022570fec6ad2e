-- What the contracts of the functions that apps call allow, in an app's terms.
use Rattle.std.specs.Prelude.{ℕ, suc, ◌+◌, ◌*◌, ◌/◌, ◌%◌, ◌≤◌, ◌<◌, ◌≡◌, List, [], ◌∷◌, ◌⊎◌, length, take, drop}
use Rattle.std.proofs.lemmas.List.Edits.{sets}
use Rattle.calendar.specs.Moments.{IsMoment, seven, instant_of, NotAfter, moment_numbers, moment_in, at_day, day_of_moment}
use Rattle.calendar.specs.declared.moments.Moment.{Moment}
use Rattle.refusals.specs.Table.{number_of}
use Rattle.refusals.specs.declared.Reason.TheVariants.{InvalidMoment, NoRule, NoStart}
use Rattle.refusals.specs.declared.Reason.{Reason}
use Rattle.refusals.specs.Answers.{Answer, given}
use Rattle.rules.specs.Rules.{read_rule}
use Rattle.rules.specs.declared.Rule.{Rule}
use Rattle.repeats.specs.Courses.{count_of}
use Rattle.repeats.specs.Listing.{rows}
use Rattle.repeats.proofs.Laws.{Occurs}
use Rattle.records.specs.Records.{ready_size}
use Rattle.stamp.specs.Stamps.{IsOffset}
use Rattle.stamp.specs.declared.Stamp.{Stamp}
use Rattle.zones.specs.declared.instants.Instant.{Instant}
use Rattle.zoned.specs.Local.{IsLocal}
use Rattle.zoned.specs.declared.local.Local.{Local}
use Rattle.fuzzydate.specs.Called.{stamp_in, moment_after, instant_from, due_after, local_after}
use Rattle.fuzzydate.proofs.fuzzy_read.Reads as read'
use Rattle.fuzzydate.proofs.fuzzy_run.Reads as run'
use Rattle.fuzzydate.proofs.fuzzy_read_in_zone.Reads as zone_read'
use Rattle.fuzzydate.proofs.fuzzy_run_in_zone.Reads as zone_run'
use Rattle.fuzzydate.proofs.fuzzy_make_ready.Reads as make'
use Rattle.fuzzydate.proofs.fuzzy_read_stamp.Reads as stamp_read'
use Rattle.fuzzydate.proofs.fuzzy_write_stamp.Reads as stamp_write'
use Rattle.fuzzydate.proofs.fuzzy_find_word.Reads as find'
use Rattle.fuzzydate.proofs.fuzzy_write_phrase.Reads as show'
use Rattle.fuzzydate.proofs.fuzzy_list_in.Reads as list'
use Rattle.fuzzydate.proofs.fuzzy_next.Reads as next'

-- a function of a contract may answer k to what is given, and leave `left` in lent memory that held `lent`: there are lifetimes, arguments and
-- parameters at exit with which the contract allows it. Three views say what is given by the arguments, and how the lent memory reads before and
-- behind the call; what an argument does not hold is as in what they are compared with.
module _ {K : Type 0} {A E : K → Type 0} (Post : (κs : K) → A κs → ℕ → E κs → Type 0) where
  pub record Called (G L : Type 0) (given_in : (κs : K) → A κs → G → G) (lent_in : (κs : K) → A κs → L → L) (left_in : (κs : K) → E κs → L → L)
      (given : G) (lent : L) (k : ℕ) (left : L) : Type 0 where
    pub κs : K
    pub args : A κs
    pub exit : E κs
    pub promised : Post κs args k exit
    pub given_is : given_in κs args given ≡ given
    pub lent_is : lent_in κs args lent ≡ lent
    pub left_is : left_in κs exit lent ≡ left

-- the numbers of the readings
pub data IsReading : ℕ → Type 0 where
  first : IsReading 1
  second : IsReading 2

-- `fuzzy_make_ready`, of a phrase in a reading, with an array of `ready_size` bytes
pub record MakeReady (reading : ℕ) (phrase array : List ℕ) (k : ℕ) (array' : List ℕ) : Type 0 where
  pub bytes : length array ≡ ready_size
  pub call : Called make'.Post (ℕ × List ℕ) (List ℕ) (λ κs a g. (a.0, a.1.0.now)) (λ κs a l. a.1.1.0.now) (λ κs e l. e.1.1.0.now) (reading, phrase) array k array'

-- `fuzzy_read_stamp`, of a text
abbrev pub ReadStamp : List ℕ → List ℕ → ℕ → List ℕ → Type 0
ReadStamp text array k array' =
    Called stamp_read'.Post (List ℕ) (List ℕ) (λ κs a g. a.0.now) (λ κs a l. a.1.0.now) (λ κs e l. e.1.0.now) text array k array'

-- `fuzzy_write_stamp`, of a stamp
abbrev pub WriteStamp : Stamp → List ℕ → ℕ → List ℕ → Type 0
WriteStamp st text k text' =
    Called stamp_write'.Post Stamp (List ℕ) (λ κs a g. stamp_in a.0.now) (λ κs a l. a.1.0.now) (λ κs e l. e.1.0.now) st text k text'

-- `fuzzy_write_phrase`, of a moment
abbrev pub WritePhrase : Moment → List ℕ → ℕ → List ℕ → Type 0
WritePhrase t text k text' = Called show'.Post Moment (List ℕ) (λ κs a g. moment_in a.0.now) (λ κs a l. a.1.0.now) (λ κs e l. e.1.0.now) t text k text'

-- the readings that give a moment of a year back from its phrase: both, or the first alone before year 1000
pub data Shows (year : ℕ) : ℕ → Type 0 where
  in_first : Shows year 1
  in_second : 1000 ≤ year → Shows year 2

-- `fuzzy_read`, of a phrase in a reading at a now
abbrev pub Read : ℕ → List ℕ → Moment → List ℕ → ℕ → List ℕ → Type 0
Read reading phrase n array k array' =
    Called read'.Post (ℕ × List ℕ × Moment) (List ℕ)
    (λ κs a g. (a.0, a.1.0.now, moment_in a.1.1.0.now)) (λ κs a l. a.1.1.1.0.now) (λ κs e l. e.1.1.1.0.now)
    (reading, phrase, n) array k array'

-- `fuzzy_run`, of a ready phrase at a now
abbrev pub Run : List ℕ → Moment → List ℕ → ℕ → List ℕ → Type 0
Run ready n array k array' =
    Called run'.Post (List ℕ × Moment) (List ℕ)
    (λ κs a g. (a.0.now, moment_in a.1.0.now)) (λ κs a l. a.1.1.0.now) (λ κs e l. e.1.1.0.now) (ready, n) array k array'

-- an instant of a file's zone
pub record ZoneNow : Type 0 where
  pub file : List ℕ
  pub at : Instant

-- the array for an instant's second, and the one for what the clocks show
pub record ZoneArrays : Type 0 where
  pub due : List ℕ
  pub local : List ℕ

-- what an answer in a zone leaves in both
abbrev pub zone_after : Answer Local → ZoneArrays → ZoneArrays
zone_after w lent = record { due = due_after w lent.due; local = local_after w lent.local }

-- `fuzzy_run_in_zone`, of a ready phrase
abbrev pub RunZone : List ℕ → ZoneNow → ZoneArrays → ℕ → ZoneArrays → Type 0
RunZone ready n arrays k arrays' =
    Called zone_run'.Post (List ℕ × ZoneNow) ZoneArrays
    (λ κs a g. (a.0.now, record { file = a.1.0.now; at = instant_from a.1.1.0 a.1.1.1.0 }))
    (λ κs a l. let b = a.1.1.1.1 in record { due = b.0.now; local = b.1.0.now })
    (λ κs e l. let b = e.1.1.1.1 in record { due = b.0.now; local = b.1.0.now })
    (ready, n) arrays k arrays'

-- `fuzzy_read_in_zone`, of a phrase in a reading
abbrev pub ReadZone : ℕ → List ℕ → ZoneNow → ZoneArrays → ℕ → ZoneArrays → Type 0
ReadZone reading phrase n arrays k arrays' =
    Called zone_read'.Post (ℕ × List ℕ × ZoneNow) ZoneArrays
    (λ κs a g. let b = a.1.1 in (a.0, a.1.0.now, record { file = b.0.now; at = instant_from b.1.0 b.1.1.0 }))
    (λ κs a l. let b = a.1.1.1.1 in record { due = b.1.0.now; local = b.1.1.0.now })
    (λ κs e l. let b = e.1.1.1.1 in record { due = b.1.0.now; local = b.1.1.0.now })
    (reading, phrase, n) arrays k arrays'

-- an answer's three parts: the number of a refusal, or 0
abbrev pub number : ℕ → ℕ
number k = k % 65536

-- its place
abbrev pub place : ℕ → ℕ
place k = k / 65536 % 65536

-- and the length of its part, of a ready phrase, or of a phrase that was written, or the count of listed rows
abbrev pub size : ℕ → ℕ
size k = k / 4294967296

-- two answers are alike: the same number, with 0 the same in the arrays, and with any other nothing written
pub record Alike {L : Type 0} (q : ℕ) (phone phone' : L) (r : ℕ) (hub hub' : L) : Type 0 where
  pub number_same : q ≡ r
  pub moment_same : r ≡ 0 → phone' ≡ hub'
  pub nothing_written : (r ≡ 0 → ⊥) → (phone' ≡ phone) × (hub' ≡ hub)

-- "hub and phones must each arrive at the same moment": what making a phrase ready left, run at any now, gives what reading the phrase at
-- that now gives in the same reading; and what making ready refuses, reading refuses with the same number, place and part, at every now
abbrev pub Agree : {N L : Type 0} → (ℕ → List ℕ → N → L → ℕ → L → Type 0) → (List ℕ → N → L → ℕ → L → Type 0) → Type 0
Agree {N} {L} read run =
    (reading : ℕ) (phrase array array' : List ℕ) (k : ℕ) → MakeReady reading phrase array k array' →
    (n : N) (hub hub' : L) (r : ℕ) → read reading phrase n hub r hub' →
    (number k ≡ 0 → (phone phone' : L) (q : ℕ) → run (take (size k) array') n phone q phone' → Alike q phone phone' r hub hub')
    × ((number k ≡ 0 → ⊥) → (r ≡ k) × (array' ≡ array) × (hub' ≡ hub))

-- what an answer is: 0 and what something with a property leaves; or a refusal of some numbers whose part lies within `room` bytes, and
-- nothing written
module _ {A L : Type 0} (after : Answer A → L → L) (P : A → Type 0) (Number : ℕ → Type 0) (room : ℕ) (array : L) where
  pub data Answers : ℕ → L → Type 0 where
    moment : {x : A} → P x → Answers 0 (after (given x) array)
    refusal : {k : ℕ} → Number (number k) → place k + size k ≤ room → Answers k array

-- the number of a refusal of low to 13
abbrev pub Usual : ℕ → ℕ → Type 0
Usual low n = (low ≤ n) × (n ≤ 13)

-- at a fixed offset: a moment of the calendar, or one of those
abbrev pub Answered : ℕ → ℕ → List ℕ → ℕ → List ℕ → Type 0
Answered low room array k array' = Answers moment_after IsMoment (Usual low) room array k array'

-- or one of the zone's own
abbrev pub UsualInZone : ℕ → ℕ → Type 0
UsualInZone low n = Usual low n ⊎ ((21 ≤ n) × (n ≤ 23))

-- in a zone: what the clocks show, or one of those
abbrev pub AnsweredZone : ℕ → ℕ → ZoneArrays → ℕ → ZoneArrays → Type 0
AnsweredZone low room arrays k arrays' = Answers zone_after IsLocal (UsualInZone low) room arrays k arrays'

-- `fuzzy_find_word`, of a word in a reading
abbrev pub FindWord : ℕ → List ℕ → List ℕ → ℕ → List ℕ → Type 0
FindWord reading word array k array' =
    Called find'.Post (ℕ × List ℕ) (List ℕ)
    (λ κs a g. (a.0, a.1.0.now)) (λ κs a l. a.1.1.0.now) (λ κs e l. e.1.1.0.now) (reading, word) array k array'

-- what is found of a word: 0, and a code or 0, and "at most 8 comparisons with table words"
pub data Counted : ℕ → List ℕ → Type 0 where
  counted : {code count : ℕ} → count ≤ 8 → Counted 0 (code ∷ count ∷ [])

-- `fuzzy_list_in`, of a rule's text and a start
abbrev pub ListRule : List ℕ → Moment → List ℕ → ℕ → List ℕ → Type 0
ListRule rule t rows k rows' =
    Called list'.Post (List ℕ × Moment) (List ℕ)
    (λ κs a g. (a.0.now, moment_in a.1.0.now)) (λ κs a l. a.1.1.0.now) (λ κs e l. e.1.1.0.now) (rule, t) rows k rows'

-- `fuzzy_next`, of a rule's text, a start and an asked moment
abbrev pub NextRule : List ℕ → Moment → Moment → List ℕ → ℕ → List ℕ → Type 0
NextRule rule t asked array k array' =
    Called next'.Post (List ℕ × Moment × Moment) (List ℕ)
    (λ κs a g. (a.0.now, moment_in a.1.0.now, moment_in a.1.1.0.now)) (λ κs a l. a.1.1.1.0.now) (λ κs e l. e.1.1.1.0.now)
    (rule, t, asked) array k array'

-- row i of those that a listing left
abbrev pub row_at : List ℕ → ℕ → Moment
row_at rows i = moment_in (drop (moment_numbers * i) rows)

-- the first i rows are before the asked moment
abbrev pub Earlier : List ℕ → Moment → ℕ → Type 0
Earlier rows asked i = (j : ℕ) → j < i → instant_of (row_at rows j) < instant_of asked

-- 0 and the first of so many rows at or after the asked moment; or 20 where none is, and nothing written
pub data FirstRow (rows : List ℕ) (count : ℕ) (asked : Moment) (array : List ℕ) : ℕ → List ℕ → Type 0 where
  row : (i : ℕ) → i < count → NotAfter asked (row_at rows i) → Earlier rows asked i → FirstRow rows count asked array 0 (seven (row_at rows i))
  none : Earlier rows asked count → FirstRow rows count asked array 20 array

-- the number of one of some reasons
abbrev pub OneOf : List Reason → ℕ → Type 0
OneOf [] n = ⊥
OneOf (x ∷ xs) n = (n ≡ number_of x) ⊎ OneOf xs n

-- a stamp that exists
pub record IsStamp (st : Stamp) : Type 0 where
  pub moment : IsMoment st.moment
  pub offset : IsOffset st.offset

-- what a call that writes a text may answer and leave: the length of a text with a property, and the text in front of what was there; or one
-- of some refusals, and nothing written
pub data Wrote (P : List ℕ → Type 0) (reasons : List Reason) (text : List ℕ) : ℕ → List ℕ → Type 0 where
  wrote : {bytes : List ℕ} → P bytes → Wrote P reasons text (4294967296 * length bytes) (sets text 0 bytes)
  unwritten : {k : ℕ} → OneOf reasons k → Wrote P reasons text k text

-- where an occurrence on a day stands among the rows that a listing left: it is one of them; or they are as many as the room or COUNT allows, and
-- all before it
pub data Stands (r : Rule) (t : Moment) (room count : ℕ) (left : List ℕ) (n : ℕ) : Type 0 where
  row_of : (i : ℕ) → i < count → row_at left i ≡ at_day n t → Stands r t room count left n
  no_room : (count ≡ room) ⊎ (count ≡ count_of r.bound) → Earlier left (at_day n t) count → Stands r t room count left n

-- the rows of a rule from a start on: "in order", "the start is the first occurrence", each is a moment and occurs by the rule at the start's time
-- of day, and none that there is room for is missing
pub record Listed (r : Rule) (t : Moment) (room count : ℕ) (left : List ℕ) : Type 0 where
  pub fits : count ≤ room
  pub first : 0 < room → row_at left 0 ≡ t
  pub in_order : (i : ℕ) → suc i < count → instant_of (row_at left i) < instant_of (row_at left (suc i))
  pub moments : (i : ℕ) → i < count → IsMoment (row_at left i)
  pub occurs : (i : ℕ) → i < count → Occurs r t (day_of_moment (row_at left i)) × (at_day (day_of_moment (row_at left i)) t ≡ row_at left i)
  pub all : (n : ℕ) → Occurs r t n → Stands r t room count left n

-- what listing a rule may answer and leave: the count of rows, and these in front; or 8, 18 or 19, and nothing written
pub data Lists (s : List ℕ) (t : Moment) (lent : List ℕ) : ℕ → List ℕ → Type 0 where
  listed : {r : Rule} (l : List ℕ) → read_rule s ≡ given r → Listed r t (length lent / moment_numbers) (length l) (sets lent 0 (rows t l)) →
      Lists s t lent (4294967296 * length l) (sets lent 0 (rows t l))
  unlisted : {k : ℕ} → OneOf (InvalidMoment ∷ NoRule ∷ NoStart ∷ []) k → Lists s t lent k lent
