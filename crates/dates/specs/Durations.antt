-- `enum Duration` and its parsers. The code keeps a duration as the row of its parts.
use Rattle.std.specs.Prelude.{ℕ, suc, ◌+◌, ◌≤◌, Bool, true, false, ◌||◌, Option, Some, None, Result, Ok, Err, List, drop, set}
use Rattle.lexer.specs.Lexemes as lexeme
use Rattle.lexer.specs.declared.reading.Reading.{Reading}
use Rattle.numbers.specs.declared.Overflow.{Overflow}
use Rattle.numbers.specs.Answers.{overflow as large}
use Rattle.numbers.specs.Again.{again}
use Rattle.numbers.specs.Slices.{is_at}
use Rattle.numbers.specs.Numbers.{num_of}
use Rattle.dates.specs.Parsed.{Parsed, is, nothing, overflow, pick, or_else, if_let, and_then, parsed_number}
use Rattle.dates.specs.Units.{is_article, unit_of}
use Rattle.dates.specs.declared.units.Unit.{Unit}
use Rattle.dates.specs.declared.units.Unit.TheVariants.{Day, Week, Hour, Minute, Month, Year}
use Rattle.dates.specs.declared.duration.Part.{Part}
use Rattle.dates.specs.declared.duration.Part.TheVariants.{Article, Specific}
use Rattle.dates.specs.declared.duration.Parts.{Parts}
use Rattle.dates.specs.declared.duration.Span.{Span}
use Rattle.dates.specs.declared.duration.Rowed.{Rowed}

-- `enum Duration`: `Article` and `Specific` are parts, and the first of a `Concat` is always one, since `parse_concrete` reads it
pub data Duration : Type 0 where
  part : Part → Duration
  concat : Part → Duration → Duration

-- `Duration::is_sub_daily`, of a unit
abbrev pub is_sub_daily_unit : Unit → Bool
is_sub_daily_unit Day = false
is_sub_daily_unit Week = false
is_sub_daily_unit Month = false
is_sub_daily_unit Year = false
is_sub_daily_unit Hour = true
is_sub_daily_unit Minute = true

-- of a part
abbrev pub is_sub_daily_part : Part → Bool
is_sub_daily_part (Article u) = is_sub_daily_unit u
is_sub_daily_part (Specific u n) = is_sub_daily_unit u

-- of a duration
abbrev pub is_sub_daily : Duration → Bool
is_sub_daily (part p) = is_sub_daily_part p
is_sub_daily (concat p d) = is_sub_daily_part p || is_sub_daily d

-- <num> <unit>
unfoldable pub specific_of : Reading → List ℕ → Parsed Part
specific_of reading l = and_then (parsed_number (num_of reading l)) (λ num t. and_then (unit_of (drop t l)) (λ u k. is (Specific u num) (t + k)))

-- <article> <unit>
unfoldable pub article_of : List ℕ → Parsed Part
article_of l = pick (is_article l) (and_then (unit_of (drop 1 l)) (λ u k. is (Article u) (1 + k))) nothing

-- `Duration::parse_concrete`
unfoldable pub concrete_of : Reading → List ℕ → Parsed Part
concrete_of reading l = or_else (specific_of reading l) (article_of l)

-- `Duration::parse`, with D for the duration behind an "and"; an "and" with none behind it is not taken
unfoldable pub duration_turn : Reading → (List ℕ → Parsed Duration) → List ℕ → Parsed Duration
duration_turn reading D l =
    and_then (concrete_of reading l) (λ d t.
    pick (is_at l t lexeme.And)
    (if_let (D (drop (t + 1) l)) (λ dur2 u. is (concat d dur2) (t + 1 + u)) (is (part d) t))
    (is (part d) t))

-- `Duration::parse`, which calls itself behind an "and" (`duration_is`: duration_of reading l ≡ duration_turn reading (duration_of reading) l)
unfoldable pub duration_of : Reading → List ℕ → Parsed Duration
duration_of reading l = again nothing (duration_turn reading) l

-- one part more in a row of parts
abbrev pub pushed : Parts → Part → Parts
pushed ps p = record { n = ps.n + 1; items = set ps.items ps.n (record { part = p }) }

-- the parts of a duration behind those of a row, first to last
abbrev pub into : Duration → Parts → Parts
into (part p) ps = pushed ps p
into (concat p d) ps = into d (pushed ps p)

-- how many they are
abbrev pub size : Duration → ℕ
size (part p) = 1
size (concat p d) = suc (size d)

-- the code's answer without the parts: the lexemes taken, and whether the duration is sub-daily
abbrev pub taken_answer : Parsed Duration → Result (Option Span) Overflow
taken_answer (is d t) = Ok (Some (record { taken = t; sub_daily = is_sub_daily d }))
taken_answer nothing = Ok None
taken_answer overflow = Err large

-- the bounds of `TakenCounted`
abbrev pub TakenBounds : Result (Option Span) Overflow → ℕ → Type 0
TakenBounds (Ok (Some s)) n = (2 ≤ s.taken) × (s.taken ≤ n)
TakenBounds (Ok None) n = 0 ≤ n
TakenBounds (Err e) n = 0 ≤ n

-- at least two and at most n lexemes
pub record TakenCounted (r : Result (Option Span) Overflow) (n : ℕ) : Type 0 where
  pub bounds : TakenBounds r n

-- the code's answer with the parts: a row with those of the duration, and where that ends; with none, the row
abbrev pub rowed : Parts → Parsed Duration → Rowed
rowed ps (is d t) = record { parts = into d ps; end = t }
rowed ps nothing = record { parts = ps; end = 0 }
rowed ps overflow = record { parts = ps; end = 0 }
