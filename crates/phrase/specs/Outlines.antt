-- The code's answers for one turn and for a whole tree: an outline is so many links, a base, and where the base's own duration begins.
use Rattle.std.specs.Prelude.{ℕ, ◌+◌, Bool, true, false, cond, Option, Some, None, Result, Ok, Err, List, ltb, drop}
use Rattle.lexer.specs.Lexemes as lexeme
use Rattle.lexer.specs.declared.reading.Reading.{Reading}
use Rattle.numbers.specs.declared.Overflow.{Overflow}
use Rattle.numbers.specs.Answers.{overflow as large}
use Rattle.numbers.specs.Slices.{is_at}
use Rattle.dates.specs.Parsed.{Parsed, is, nothing, overflow}
use Rattle.dates.specs.Durations.{duration_of, rowed}
use Rattle.dates.specs.Times.{time_of}
use Rattle.dates.specs.declared.duration.Parts.{Parts}
use Rattle.dates.specs.declared.time.Time.TheVariants.{Empty}
use Rattle.expressions.specs.Shapes.{shape, has_duration}
use Rattle.expressions.specs.ExprAnswers.{own_place}
use Rattle.phrase.specs.Tree.{DateTime, date_time, time_date, duration_after, duration_before, now}
use Rattle.phrase.specs.DateTimes.{Turn, whole, ago, link, comma_or}
use Rattle.phrase.specs.Chains.{chain_of}
use Rattle.phrase.specs.declared.chain.Base.{Base}
use Rattle.phrase.specs.declared.chain.Base.TheVariants.{Now, DateTime as Dated, TimeDate as Timed}
use Rattle.phrase.specs.declared.gather.Gathered.{Gathered}
use Rattle.phrase.specs.declared.date_time.Outline.{Outline}
use Rattle.phrase.specs.declared.date_time.Turn.{Turn as TurnTaken}
use Rattle.phrase.specs.declared.date_time.Turn.TheVariants.{Whole, Ago, Link}

-- the lexemes taken, 0 where nothing was read
abbrev pub taken_of : {A : Type 0} → Parsed A → ℕ
taken_of (is v t) = t
taken_of nothing = 0
taken_of overflow = 0

-- the lexemes of the link at the front of l: a duration, and the word behind it
abbrev pub link_taken : Reading → List ℕ → ℕ
link_taken reading l = taken_of (duration_of reading l) + 1

-- the lexemes of the time at the front of l, with the comma or "on" behind it
abbrev pub time_taken : Reading → List ℕ → ℕ
time_taken reading l = comma_or l (taken_of (time_of reading l)) lexeme.On

-- the outline of a tree of k lexemes that stands at the front of l, behind m links; the place of its base's own duration is counted from the base on
abbrev pub outline : Reading → ℕ → ℕ → List ℕ → DateTime → Outline
outline reading k m l (date_time e t) = record { taken = k; base = Dated (shape e); time = t; own = own_place reading l e; m = m }
outline reading k m l (time_date t e) =
    record { taken = k; base = Timed (shape e); time = t; own = time_taken reading l + own_place reading (drop (time_taken reading l) l) e; m = m }
outline reading k m l (duration_after dur x) = outline reading k (m + 1) (drop (link_taken reading l) l) x
outline reading k m l (duration_before dur x) = outline reading k (m + 1) (drop (link_taken reading l) l) x
outline reading k m l now = record { taken = k; base = Now; time = Empty; own = 0; m = m }

-- the code's answer for a whole tree
abbrev pub outline_answer : Reading → List ℕ → Parsed DateTime → Result (Option Outline) Overflow
outline_answer reading l (is x t) = Ok (Some (outline reading t 0 l x))
outline_answer reading l nothing = Ok None
outline_answer reading l overflow = Err large

-- the code's answer for one turn
abbrev pub turn_answer : Reading → List ℕ → Parsed Turn → Result (Option (TurnTaken × ℕ)) Overflow
turn_answer reading l (is (whole x) t) = let o = outline reading t 0 l x in Ok (Some (Whole o.base o.time o.own, t))
turn_answer reading l (is (ago dur) t) = Ok (Some (Ago, t))
turn_answer reading l (is (link back dur) t) = Ok (Some (Link, t))
turn_answer reading l nothing = Ok None
turn_answer reading l overflow = Err large

-- what is kept of a reading: the tree only where at least n lexemes are taken
abbrev pub kept : ℕ → Parsed DateTime → Parsed DateTime
kept n (is x t) = is (cond (ltb t n) now x) t
kept n nothing = nothing
kept n overflow = overflow

-- the chain of a tree, and the lexemes taken
abbrev pub gathered : Parsed DateTime → Result (Option Gathered) Overflow
gathered (is x t) = Ok (Some (record { chain = chain_of x; taken = t }))
gathered nothing = Ok None
gathered overflow = Err large

-- whether a duration that ends at t goes back
abbrev pub is_back : List ℕ → ℕ → Bool
is_back l t = cond (is_at l t lexeme.After) false (cond (is_at l t lexeme.From) false true)

-- whether a duration belongs to the base
abbrev pub has_own : Base → Bool
has_own Now = false
has_own (Dated x) = has_duration x
has_own (Timed x) = has_duration x

-- a row with the parts of the base's own duration, which stands at the front of l
abbrev pub with_own : Reading → Base → List ℕ → Parts → Parts
with_own reading b l ps = cond (has_own b) (rowed ps (duration_of reading l)).parts ps
