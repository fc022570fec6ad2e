-- `DateExpr::parse`, alternatives in the text's order, under either reading: the first is the Rust's.
use Rattle.std.specs.Prelude.{ℕ, ◌+◌, ◌&&◌, not, List, drop}
use Rattle.lexer.specs.Lexemes as lexeme
use Rattle.lexer.specs.declared.reading.Reading.{Reading}
use Rattle.lexer.specs.declared.reading.Reading.TheVariants.{First, Second}
use Rattle.numbers.specs.Slices.{is_at}
use Rattle.dates.specs.Parsed.{Parsed, is, nothing, pick, if_let, and_then}
use Rattle.dates.specs.Units.{unit_of, weekday_of, relative_specifier_of}
use Rattle.dates.specs.Durations.{Duration, duration_of, is_sub_daily}
use Rattle.dates.specs.Dates.{date_of}
use Rattle.dates.specs.declared.date.Date.{Date}
use Rattle.dates.specs.declared.date.Date.TheVariants.{Empty}
use Rattle.dates.specs.declared.units.Unit.{Unit}
use Rattle.dates.specs.declared.units.RelativeSpecifier.{RelativeSpecifier}
use Rattle.expressions.specs.Tree.{DateExpr, date, date_relative, date_expression_after, date_expression_before, unit_relative}
use Rattle.expressions.specs.Tree.{relative_weekday, weekday_relative, weekday_expression_before, weekday_expression_after, before, after, weekday}

-- what may stand behind a date or a weekday; `stray` where lexemes were passed and no alternative is whole
pub data Tail : Type 0 where
  relative : RelativeSpecifier → Unit → Tail
  ago : Duration → Tail
  inside : Duration → Tail
  stray : Tail

-- in <duration>, unless that is sub-daily
unfoldable pub in_tail_of : Reading → List ℕ → Parsed Tail
in_tail_of reading l =
    pick (is_at l 0 lexeme.In)
    (if_let (duration_of reading (drop 1 l)) (λ duration t. pick (is_sub_daily duration) (is stray 1) (is (inside duration) (1 + t))) (is stray 1))
    nothing

-- <duration> ago, unless that is sub-daily
unfoldable pub duration_tail_of : Reading → List ℕ → Parsed Tail
duration_tail_of reading l =
    if_let (duration_of reading l)
    (λ duration t. pick (is_at l t lexeme.Ago && not (is_sub_daily duration)) (is (ago duration) (t + 1)) (is stray t))
    (in_tail_of reading l)

-- <relative_specifier> <unit> | <duration> ago | in <duration>: the text has it twice, behind a date and behind a weekday
unfoldable pub tail_of : Reading → List ℕ → Parsed Tail
tail_of reading l =
    if_let (relative_specifier_of l)
    (λ spec t. if_let (unit_of (drop t l)) (λ unit u. is (relative spec unit) (t + u)) (is stray t))
    (duration_tail_of reading l)

-- a date of t lexemes and its tail of u: behind a date the count is rolled back where no tail is whole (`date_tokens`)
abbrev pub with_date : Date → ℕ → Tail → ℕ → Parsed DateExpr
with_date d t (relative spec unit) u = is (date_relative d spec unit) (t + u)
with_date d t (ago duration) u = is (date_expression_before d duration) (t + u)
with_date d t (inside duration) u = is (date_expression_after d duration) (t + u)
with_date d t stray u = is (date d) t

-- "in" behind a weekday: in the first reading it gives `WeekdayExpressionBefore` as "ago" does, in the second it goes forward
abbrev pub weekday_in : Reading → ℕ → Duration → DateExpr
weekday_in First w duration = weekday_expression_before w duration
weekday_in Second w duration = weekday_expression_after w duration

-- a weekday of t lexemes and its tail of u: behind a weekday the count is not rolled back ("friday next 5:00")
abbrev pub with_weekday : Reading → ℕ → ℕ → Tail → ℕ → Parsed DateExpr
with_weekday reading w t (relative spec unit) u = is (weekday_relative w spec unit) (t + u)
with_weekday reading w t (ago duration) u = is (weekday_expression_before w duration) (t + u)
with_weekday reading w t (inside duration) u = is (weekday_in reading w duration) (t + u)
with_weekday reading w t stray u = is (weekday w) (t + u)

-- <duration> ago | <duration> after <date> | <duration> from <date>, behind a duration of t lexemes; a sub-daily one is given up
unfoldable pub with_duration_of : Reading → Duration → ℕ → List ℕ → Parsed DateExpr
with_duration_of reading duration t l =
    pick (is_sub_daily duration) nothing
    (pick (is_at l t lexeme.Ago) (is (before duration Empty) (t + 1))
    (pick (is_at l t lexeme.After) (and_then (date_of reading (drop (t + 1) l)) (λ d u. is (after duration d) (t + 1 + u)))
    (pick (is_at l t lexeme.From) (and_then (date_of reading (drop (t + 1) l)) (λ d u. is (after duration d) (t + 1 + u)))
    nothing)))

-- <relative_specifier> <weekday> | <relative_specifier> <unit>
unfoldable pub relative_expr_of : List ℕ → Parsed DateExpr
relative_expr_of l =
    and_then (relative_specifier_of l) (λ spec t.
    if_let (weekday_of (drop t l)) (λ w u. is (relative_weekday spec w) (t + u))
    (and_then (unit_of (drop t l)) (λ unit u. is (unit_relative spec unit) (t + u))))

-- from the weekday on
unfoldable pub weekday_expr_of : Reading → List ℕ → Parsed DateExpr
weekday_expr_of reading l =
    if_let (weekday_of l) (λ w t. if_let (tail_of reading (drop t l)) (with_weekday reading w t) (is (weekday w) t))
    (relative_expr_of l)

-- from the duration on
unfoldable pub undated_of : Reading → List ℕ → Parsed DateExpr
undated_of reading l = if_let (duration_of reading l) (λ duration t. with_duration_of reading duration t l) (weekday_expr_of reading l)

-- `DateExpr::parse`
unfoldable pub date_expr_of : Reading → List ℕ → Parsed DateExpr
date_expr_of reading l = if_let (date_of reading l) (λ d t. if_let (tail_of reading (drop t l)) (with_date d t) (is (date d) t)) (undated_of reading l)
