-- `Date::parse`, alternatives in the text's order, under either reading: the first is the Rust's.
use Rattle.std.specs.Prelude.{ℕ, ◌+◌, Bool, true, false, ◌||◌, Some, None, Ok, Err, List, eqb, leb, ltb, length, drop}
use Rattle.lexer.specs.Lexemes as lexeme
use Rattle.lexer.specs.declared.reading.Reading.{Reading}
use Rattle.lexer.specs.declared.reading.Reading.TheVariants.{First, Second}
use Rattle.numbers.specs.declared.Number.{Number}
use Rattle.numbers.specs.Answers.{NumberFound}
use Rattle.numbers.specs.Slices.{get, is_at, one_if}
use Rattle.numbers.specs.Numbers.{num_of}
use Rattle.dates.specs.Parsed.{Parsed, is, nothing, overflow, pick, or_else, if_let, and_then, parsed_number}
use Rattle.dates.specs.Units.{month_of}
use Rattle.dates.specs.declared.date.Date.{Date}
use Rattle.dates.specs.declared.date.Date.TheVariants.{YearMonthNumDay, MonthNumDayYear, DayMonthYear, MonthDayYear, MonthNumDay, MonthDay, Today, Tomorrow, Yesterday}

-- today, tomorrow, yesterday
unfoldable pub named_day_of : List ℕ → Parsed Date
named_day_of l =
    pick (is_at l 0 lexeme.Today) (is Today 1)
    (pick (is_at l 0 lexeme.Tomorrow) (is Tomorrow 1)
    (pick (is_at l 0 lexeme.Yesterday) (is Yesterday 1)
    nothing))

-- <num> <month> <num>
unfoldable pub day_month_year_of : Reading → List ℕ → Parsed Date
day_month_year_of reading l =
    and_then (parsed_number (num_of reading l)) (λ day t.
    and_then (month_of (drop t l)) (λ month u.
    and_then (parsed_number (num_of reading (drop (t + u) l))) (λ year v.
    is (DayMonthYear day month year) (t + u + v))))

-- whether a number behind month and day is their year: in the second reading only a run of four digits is
abbrev pub is_year_in : Reading → Number → Bool
is_year_in First n = true
is_year_in Second n = eqb n.digits 4

-- a number behind month and day as their year; any other is left to what follows
abbrev pub year_of : Reading → NumberFound → Parsed ℕ
year_of reading (Ok (Some n)) = pick (is_year_in reading n) (is n.value n.taken) nothing
year_of reading (Ok None) = nothing
year_of reading (Err e) = overflow

-- 1 for a comma at t, behind which the second reading looks for a year, and else 0
abbrev pub comma_in : Reading → List ℕ → ℕ → ℕ
comma_in First l t = 0
comma_in Second l t = one_if (is_at l t lexeme.Comma)

-- <month> <num> [[,] <num>]: behind a month with no number the whole of `Date::parse` leaves at once; the comma is taken with the year alone
unfoldable pub month_day_of : Reading → ℕ → List ℕ → Parsed Date
month_day_of reading month l =
    and_then (parsed_number (num_of reading (drop 1 l))) (λ num t.
    let s = 1 + t + comma_in reading l (1 + t) in
    if_let (year_of reading (num_of reading (drop s l)))
    (λ year u. is (MonthDayYear month num year) (s + u))
    (is (MonthDay month num) (1 + t)))

-- `delim == &Lexeme::Slash || delim == &Lexeme::Dash || delim == &Lexeme::Dot`
unfoldable pub is_delim : ℕ → Bool
is_delim x = eqb x lexeme.Slash || (eqb x lexeme.Dash || eqb x lexeme.Dot)

-- `if`, of dates
abbrev pub pick_date : Bool → Date → Date → Date
pick_date true a b = a
pick_date false a b = b

-- three numbers: year first if it is above 1000, day first behind a dot, else month first
unfoldable pub three_numbers_of : ℕ → ℕ → ℕ → ℕ → Date
three_numbers_of delim num1 num2 num3 =
    pick_date (ltb 1000 num1) (YearMonthNumDay num1 num2 num3)
    (pick_date (eqb delim lexeme.Dot) (MonthNumDayYear num2 num1 num3)
    (MonthNumDayYear num1 num2 num3))

-- two numbers: day first behind a dot, else month first
unfoldable pub two_numbers_of : ℕ → ℕ → ℕ → Date
two_numbers_of delim num1 num2 = pick_date (eqb delim lexeme.Dot) (MonthNumDay num2 num1) (MonthNumDay num1 num2)

-- behind the second number, which ends at t: `l.get(tokens)?` leaves where nothing follows ("5/2"),
-- the same delimiter wants a third number, and behind anything else two numbers are a date
unfoldable pub behind_second_of : Reading → ℕ → ℕ → ℕ → ℕ → List ℕ → Parsed Date
behind_second_of reading delim num1 num2 t l =
    pick (leb (length l) t) nothing
    (pick (is_at l t delim)
    (and_then (parsed_number (num_of reading (drop (t + 1) l))) (λ num3 u. is (three_numbers_of delim num1 num2 num3) (t + 1 + u)))
    (is (two_numbers_of delim num1 num2) t))

-- <num> <delim> <num> [<delim> <num>]
unfoldable pub delimited_of : Reading → List ℕ → Parsed Date
delimited_of reading l =
    and_then (parsed_number (num_of reading l)) (λ num1 t.
    pick (is_delim (get l t))
    (and_then (parsed_number (num_of reading (drop (t + 1) l))) (λ num2 u. behind_second_of reading (get l t) num1 num2 (t + 1 + u) l))
    nothing)

-- `Date::parse`
unfoldable pub date_of : Reading → List ℕ → Parsed Date
date_of reading l =
    or_else (named_day_of l)
    (or_else (day_month_year_of reading l)
    (if_let (month_of l) (λ month t. month_day_of reading month l)
    (delimited_of reading l)))
