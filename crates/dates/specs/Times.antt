-- `Time::parse`, alternatives in the text's order.
use Rattle.std.specs.Prelude.{ℕ, ◌+◌, List, drop}
use Rattle.lexer.specs.Lexemes as lexeme
use Rattle.lexer.specs.declared.reading.Reading.{Reading}
use Rattle.numbers.specs.Slices.{is_at}
use Rattle.numbers.specs.Numbers.{num_of}
use Rattle.dates.specs.Parsed.{Parsed, is, pick, if_let, and_then, parsed_number}
use Rattle.dates.specs.declared.time.Time.{Time}
use Rattle.dates.specs.declared.time.Time.TheVariants.{HourMin, HourMinAM, HourMinPM}

-- [: [<num>]]: the minute, 0 where it is not said; a colon is taken also with no number behind it
unfoldable pub minute_of : Reading → List ℕ → Parsed ℕ
minute_of reading l =
    pick (is_at l 0 lexeme.Colon)
    (if_let (parsed_number (num_of reading (drop 1 l))) (λ min t. is min (1 + t)) (is 0 1))
    (is 0 0)

-- [am | pm] behind hour and minute, which end at t
unfoldable pub half_of : ℕ → ℕ → ℕ → List ℕ → Parsed Time
half_of hour minute t l =
    pick (is_at l t lexeme.AM) (is (HourMinAM hour minute) (t + 1))
    (pick (is_at l t lexeme.PM) (is (HourMinPM hour minute) (t + 1))
    (is (HourMin hour minute) t))

-- <num> [: [<num>]] [am | pm]
unfoldable pub clock_of : Reading → List ℕ → Parsed Time
clock_of reading l =
    and_then (parsed_number (num_of reading l)) (λ hour t.
    and_then (minute_of reading (drop t l)) (λ minute u. half_of hour minute (t + u) l))

-- `Time::parse`
unfoldable pub time_of : Reading → List ℕ → Parsed Time
time_of reading l =
    pick (is_at l 0 lexeme.Midnight) (is (HourMin 0 0) 1)
    (pick (is_at l 0 lexeme.Noon) (is (HourMin 12 0) 1)
    (clock_of reading l))
