-- Worked cases: what `Duration::parse` gives for each row of lexemes, computed.
use Rattle.std.specs.Prelude.{◌≡◌, refl, List, [], ◌∷◌, map}
use Rattle.lexer.specs.Lexemes as lexeme
use Rattle.lexer.specs.declared.reading.Reading.TheVariants.{First}
use Rattle.numbers.specs.Slices.{get, is_at, within}
use Rattle.numbers.specs.Answers.{fits_of}
use Rattle.numbers.specs.Numbers.{is_ending, word_of, literal_of, ones_of, teens_of, tens_of, tens_ones_of, num_double_of, sum_of, tail_of, hundreds_of}
use Rattle.numbers.specs.Numbers.{num_triple_of, num_triple_unit_of, units_of, num_step, num_of}
use Rattle.dates.specs.Parsed.{is, nothing, overflow}
use Rattle.dates.specs.Units.{is_article, unit_of}
use Rattle.dates.specs.declared.units.Unit.TheVariants.{Day, Week, Hour, Minute, Month, Year}
use Rattle.dates.specs.declared.duration.Part.TheVariants.{Article, Specific}
use Rattle.dates.specs.Durations.{Duration, part, concat, specific_of, article_of, concrete_of, duration_turn, duration_of}
use Rattle.numbers.specs.Again.{turns, again}
use Rattle.dates.specs.Rows.{Row, row, Num}

-- the table
unfoldable pub cases : List (Row Duration)
cases =
    -- a number or an article with each unit
    row (Num 5 ∷ lexeme.Day ∷ []) (is (part (Specific Day 5)) 2)
    ∷ row (lexeme.A ∷ lexeme.Week ∷ []) (is (part (Article Week)) 2)
    ∷ row (lexeme.The ∷ lexeme.Month ∷ []) (is (part (Article Month)) 2)
    ∷ row (lexeme.Twenty ∷ lexeme.Dash ∷ lexeme.Two ∷ lexeme.Year ∷ []) (is (part (Specific Year 22)) 4)
    ∷ row (lexeme.An ∷ lexeme.Hour ∷ []) (is (part (Article Hour)) 2)
    ∷ row (lexeme.Ninety ∷ lexeme.Minute ∷ []) (is (part (Specific Minute 90)) 2)
    -- parts joined by "and", first to last
    ∷ row (lexeme.An ∷ lexeme.Hour ∷ lexeme.And ∷ Num 3 ∷ lexeme.Minute ∷ []) (is (concat (Article Hour) (part (Specific Minute 3))) 5)
    ∷ row
    (Num 3 ∷ lexeme.Day ∷ lexeme.And ∷ Num 2 ∷ lexeme.Week ∷ lexeme.And ∷ lexeme.A ∷ lexeme.Month ∷ [])
    (is (concat (Specific Day 3) (concat (Specific Week 2) (part (Article Month)))) 8)
    -- an "and" with no duration behind it is not taken
    ∷ row (Num 3 ∷ lexeme.Day ∷ lexeme.And ∷ []) (is (part (Specific Day 3)) 2)
    ∷ row (Num 3 ∷ lexeme.Day ∷ lexeme.And ∷ lexeme.Week ∷ []) (is (part (Specific Day 3)) 2)
    ∷ row (Num 3 ∷ lexeme.Day ∷ Num 2 ∷ lexeme.Week ∷ []) (is (part (Specific Day 3)) 2)
    -- a number or an article alone, a unit alone, both in the other order
    ∷ row [] nothing
    ∷ row (Num 3 ∷ []) nothing
    ∷ row (lexeme.A ∷ []) nothing
    ∷ row (lexeme.Day ∷ []) nothing
    ∷ row (lexeme.Day ∷ Num 3 ∷ []) nothing
    ∷ row (lexeme.A ∷ Num 3 ∷ lexeme.Day ∷ []) nothing
    -- `Zero` is never a number, the digit 0 is
    ∷ row (lexeme.Zero ∷ lexeme.Day ∷ []) nothing
    ∷ row (Num 0 ∷ lexeme.Day ∷ []) (is (part (Specific Day 0)) 2)
    -- "one hundred and" is read as one, and no unit follows it
    ∷ row (lexeme.One ∷ lexeme.Hundred ∷ lexeme.And ∷ lexeme.Day ∷ []) nothing
    -- an overflow stops the reading, also behind an "and"
    ∷ row (lexeme.Four ∷ lexeme.Billion ∷ lexeme.Day ∷ []) (is (part (Specific Day 4000000000)) 3)
    ∷ row (lexeme.Five ∷ lexeme.Billion ∷ lexeme.Day ∷ []) overflow
    ∷ row (Num 2 ∷ lexeme.Day ∷ lexeme.And ∷ lexeme.Five ∷ lexeme.Billion ∷ lexeme.Day ∷ []) overflow
    ∷ []

-- each row is what `duration_of` gives
pub read_as_listed : map (λ c. duration_of First c.lexemes) cases ≡ map (λ c. c.reading) cases
unfolding cases get is_at within is_ending word_of literal_of ones_of teens_of tens_of tens_ones_of num_double_of sum_of tail_of hundreds_of
    num_triple_of num_triple_unit_of fits_of units_of num_step turns again num_of
    is_article unit_of specific_of article_of concrete_of duration_turn duration_of
read_as_listed = refl
