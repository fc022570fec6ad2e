-- `DateTime::parse`, alternatives in the text's order, under either reading.
use Rattle.std.specs.Prelude.{ℕ, ◌+◌, Bool, true, false, ◌||◌, List, drop}
use Rattle.lexer.specs.Lexemes as lexeme
use Rattle.lexer.specs.declared.reading.Reading.{Reading}
use Rattle.numbers.specs.Again.{again}
use Rattle.numbers.specs.Slices.{is_at, one_if}
use Rattle.dates.specs.Parsed.{Parsed, is, nothing, pick, if_let, and_then}
use Rattle.dates.specs.Durations.{Duration, duration_of}
use Rattle.dates.specs.Times.{time_of}
use Rattle.dates.specs.declared.time.Time.{Time}
use Rattle.dates.specs.declared.time.Time.TheVariants.{Empty}
use Rattle.expressions.specs.Tree.{empty}
use Rattle.phrase.specs.Tree.{DateTime, date_time, time_date, duration_before, now, around}
use Rattle.expressions.specs.DateExprs.{date_expr_of}

-- what one turn of the reader gives: a whole tree, a duration before now, or a duration with its direction (back: true),
-- behind which a datetime is read again
pub data Turn : Type 0 where
  whole : DateTime → Turn
  ago : Duration → Turn
  link : Bool → Duration → Turn

-- t lexemes, with a comma or an x behind them
abbrev pub comma_or : List ℕ → ℕ → ℕ → ℕ
comma_or l t x = t + one_if (is_at l t lexeme.Comma || is_at l t x)

-- [, | at] [<time>] behind t lexemes: the comma or "at" is taken also with no time behind it
unfoldable pub time_behind_of : Reading → ℕ → List ℕ → Parsed Time
time_behind_of reading t l = let s = comma_or l t lexeme.At in if_let (time_of reading (drop s l)) (λ time u. is time (s + u)) (is Empty s)

-- <duration> after | from | before <datetime>, <duration> ago
unfoldable pub with_duration_of : Duration → ℕ → List ℕ → Parsed Turn
with_duration_of dur t l =
    pick (is_at l t lexeme.After) (is (link false dur) (t + 1))
    (pick (is_at l t lexeme.From) (is (link false dur) (t + 1))
    (pick (is_at l t lexeme.Before) (is (link true dur) (t + 1))
    (pick (is_at l t lexeme.Ago) (is (ago dur) (t + 1))
    nothing)))

-- <time> [, | on] [<date_expr>]: the comma or "on" is taken also with no date behind it
unfoldable pub timed_turn_of : Reading → List ℕ → Parsed Turn
timed_turn_of reading l =
    and_then (time_of reading l) (λ time t. let s = comma_or l t lexeme.On in
    if_let (date_expr_of reading (drop s l)) (λ expr u. is (whole (time_date time expr)) (s + u)) (is (whole (time_date time empty)) s))

-- from the duration on
unfoldable pub undated_turn_of : Reading → List ℕ → Parsed Turn
undated_turn_of reading l = if_let (duration_of reading l) (λ dur t. with_duration_of dur t l) (timed_turn_of reading l)

-- now; then a dated phrase before a duration, and a bare time last
unfoldable pub turn_of : Reading → List ℕ → Parsed Turn
turn_of reading l =
    pick (is_at l 0 lexeme.Now) (is (whole now) 1)
    (if_let (date_expr_of reading l) (λ expr t. and_then (time_behind_of reading t l) (λ time n. is (whole (date_time expr time)) n))
    (undated_turn_of reading l))

-- behind "after", "from" and "before" a datetime is read again, and with none there is nothing
abbrev pub again_of : (List ℕ → Parsed DateTime) → List ℕ → Turn → ℕ → Parsed DateTime
again_of D l (whole x) t = is x t
again_of D l (ago dur) t = is (duration_before dur now) t
again_of D l (link back dur) t = and_then (D (drop t l)) (λ x u. is (around back dur x) (t + u))

-- `DateTime::parse`, with D for the datetime that is read again
unfoldable pub date_time_step : Reading → (List ℕ → Parsed DateTime) → List ℕ → Parsed DateTime
date_time_step reading D l = and_then (turn_of reading l) (again_of D l)

-- `DateTime::parse`, which calls itself behind a link (`date_time_is`: date_time_of reading l ≡ date_time_step reading (date_time_of reading) l)
unfoldable pub date_time_of : Reading → List ℕ → Parsed DateTime
date_time_of reading l = again nothing (date_time_step reading) l
