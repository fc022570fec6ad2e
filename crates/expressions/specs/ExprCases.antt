-- Worked cases: what `DateExpr::parse` gives for each row of lexemes, computed, under each reading.
use Rattle.std.specs.Prelude.{◌≡◌, refl, List, [], ◌∷◌, map, ℕ}
use Rattle.lexer.specs.Lexemes as lexeme
use Rattle.lexer.specs.declared.reading.Reading.TheVariants.{First, Second}
use Rattle.numbers.specs.Slices.{get, is_at, within}
use Rattle.numbers.specs.Answers.{fits_of}
use Rattle.numbers.specs.Numbers as number
use Rattle.dates.specs.Parsed.{is, nothing, overflow}
use Rattle.dates.specs.Rows.{Row, row, Written, Num}
use Rattle.dates.specs.Units.{is_article, unit_of, month_of, weekday_of, relative_specifier_of}
use Rattle.numbers.specs.Again.{turns, again}
use Rattle.dates.specs.Durations.{Duration, part, specific_of, article_of, concrete_of, duration_turn, duration_of}
use Rattle.dates.specs.Dates.{named_day_of, day_month_year_of, month_day_of, is_delim}
use Rattle.dates.specs.Dates.{three_numbers_of, two_numbers_of, behind_second_of, delimited_of, date_of}
use Rattle.dates.specs.declared.units.Unit.{Unit}
use Rattle.dates.specs.declared.units.Unit.TheVariants.{Day, Week, Month, Year}
use Rattle.dates.specs.declared.units.RelativeSpecifier.TheVariants.{This, Next, Last}
use Rattle.dates.specs.declared.duration.Part.TheVariants.{Article, Specific}
use Rattle.dates.specs.declared.date.Date.TheVariants.{MonthNumDay, MonthDay, MonthDayYear, Today, Tomorrow, Empty}
use Rattle.expressions.specs.Tree.{DateExpr, date, date_relative, date_expression_after, date_expression_before, unit_relative}
use Rattle.expressions.specs.Tree.{relative_weekday, weekday_relative, weekday_expression_before, weekday_expression_after, before, after, weekday}
use Rattle.expressions.specs.DateExprs.{in_tail_of, duration_tail_of, tail_of, with_duration_of}
use Rattle.expressions.specs.DateExprs.{relative_expr_of, weekday_expr_of, undated_of, date_expr_of}

-- n of a unit
abbrev of : ℕ → Unit → Duration
of n u = part (Specific u n)

-- the table of the first reading, which is the Rust's
unfoldable pub cases : List (Row DateExpr)
cases =
    -- a date alone, with each tail, and with a tail that is given up: the count is rolled back
    row (lexeme.Today ∷ []) (is (date Today) 1)
    ∷ row (lexeme.March ∷ Num 4 ∷ lexeme.Next ∷ lexeme.Year ∷ []) (is (date_relative (MonthDay 3 4) Next Year) 4)
    ∷ row (lexeme.March ∷ Num 4 ∷ lexeme.In ∷ Num 3 ∷ lexeme.Year ∷ []) (is (date_expression_after (MonthDay 3 4) (of 3 Year)) 5)
    ∷ row
    (lexeme.May ∷ Num 5 ∷ Num 2020 ∷ Num 3 ∷ lexeme.Day ∷ lexeme.Ago ∷ [])
    (is (date_expression_before (MonthDayYear 5 5 2020) (of 3 Day)) 6)
    ∷ row
    (Num 5 ∷ lexeme.Slash ∷ Num 2 ∷ lexeme.In ∷ lexeme.A ∷ lexeme.Week ∷ [])
    (is (date_expression_after (MonthNumDay 5 2) (part (Article Week))) 6)
    ∷ row (lexeme.March ∷ Num 4 ∷ lexeme.Next ∷ []) (is (date (MonthDay 3 4)) 2)
    ∷ row (lexeme.Today ∷ lexeme.In ∷ Num 3 ∷ lexeme.Hour ∷ []) (is (date Today) 1)
    ∷ row (lexeme.Today ∷ Num 3 ∷ lexeme.Hour ∷ lexeme.Ago ∷ []) (is (date Today) 1)
    ∷ row (lexeme.Today ∷ Num 3 ∷ lexeme.Day ∷ []) (is (date Today) 1)
    -- 3 is read as the year, and "days ago" is left
    ∷ row (lexeme.March ∷ Num 4 ∷ Num 3 ∷ lexeme.Day ∷ lexeme.Ago ∷ []) (is (date (MonthDayYear 3 4 3)) 3)
    -- a duration with what stands behind it; a sub-daily one is given up
    ∷ row (Num 5 ∷ lexeme.Day ∷ lexeme.Ago ∷ []) (is (before (of 5 Day) Empty) 3)
    ∷ row (Num 5 ∷ lexeme.Day ∷ lexeme.After ∷ lexeme.Tomorrow ∷ []) (is (after (of 5 Day) Tomorrow) 4)
    ∷ row (Num 5 ∷ lexeme.Day ∷ lexeme.From ∷ lexeme.March ∷ Num 4 ∷ []) (is (after (of 5 Day) (MonthDay 3 4)) 5)
    ∷ row (Num 5 ∷ lexeme.Hour ∷ lexeme.Ago ∷ []) nothing
    ∷ row (Num 5 ∷ lexeme.Day ∷ lexeme.After ∷ []) nothing
    ∷ row (Num 5 ∷ lexeme.Day ∷ lexeme.From ∷ lexeme.Friday ∷ []) nothing
    ∷ row (Num 5 ∷ lexeme.Day ∷ []) nothing
    -- a weekday alone, with each tail, where "in" gives what "ago" gives
    ∷ row (lexeme.Friday ∷ []) (is (weekday 4) 1)
    ∷ row (lexeme.Friday ∷ lexeme.Next ∷ lexeme.Week ∷ []) (is (weekday_relative 4 Next Week) 3)
    ∷ row (lexeme.Friday ∷ lexeme.In ∷ lexeme.Two ∷ lexeme.Week ∷ []) (is (weekday_expression_before 4 (of 2 Week)) 4)
    ∷ row (lexeme.Friday ∷ lexeme.Two ∷ lexeme.Week ∷ lexeme.Ago ∷ []) (is (weekday_expression_before 4 (of 2 Week)) 4)
    -- with a tail that is given up: the count is not rolled back
    ∷ row (lexeme.Friday ∷ lexeme.Next ∷ Num 5 ∷ lexeme.Colon ∷ Num 0 ∷ []) (is (weekday 4) 2)
    ∷ row (lexeme.Friday ∷ lexeme.In ∷ lexeme.Two ∷ lexeme.Hour ∷ []) (is (weekday 4) 2)
    ∷ row (lexeme.Friday ∷ lexeme.In ∷ lexeme.Noon ∷ []) (is (weekday 4) 2)
    ∷ row (lexeme.Friday ∷ lexeme.Two ∷ lexeme.Hour ∷ lexeme.Ago ∷ []) (is (weekday 4) 3)
    ∷ row (lexeme.Friday ∷ lexeme.Two ∷ lexeme.Week ∷ []) (is (weekday 4) 3)
    -- a relative specifier with a weekday or a unit
    ∷ row (lexeme.Next ∷ lexeme.Friday ∷ []) (is (relative_weekday Next 4) 2)
    ∷ row (lexeme.Last ∷ lexeme.Week ∷ []) (is (unit_relative Last Week) 2)
    ∷ row (lexeme.This ∷ lexeme.Month ∷ []) (is (unit_relative This Month) 2)
    ∷ row (lexeme.Next ∷ []) nothing
    ∷ row (lexeme.Next ∷ lexeme.Today ∷ []) nothing
    -- what begins with none of these
    ∷ row [] nothing
    ∷ row (lexeme.Noon ∷ []) nothing
    -- an overflow stops the reading, also in a tail that would be given up
    ∷ row (lexeme.Five ∷ lexeme.Billion ∷ lexeme.Day ∷ lexeme.Ago ∷ []) overflow
    ∷ row (lexeme.Today ∷ lexeme.In ∷ lexeme.Five ∷ lexeme.Billion ∷ lexeme.Hour ∷ []) overflow
    ∷ row (lexeme.Friday ∷ lexeme.Five ∷ lexeme.Billion ∷ lexeme.Hour ∷ []) overflow
    ∷ []

-- the table of the second reading: "in" behind a weekday goes forward, a tail stands also behind a year with a comma before it, and what
-- else there is reads as in the first
unfoldable pub second_cases : List (Row DateExpr)
second_cases =
    row (lexeme.Friday ∷ lexeme.In ∷ lexeme.Two ∷ lexeme.Week ∷ []) (is (weekday_expression_after 4 (of 2 Week)) 4)
    ∷ row (lexeme.Friday ∷ lexeme.Two ∷ lexeme.Week ∷ lexeme.Ago ∷ []) (is (weekday_expression_before 4 (of 2 Week)) 4)
    ∷ row (lexeme.Friday ∷ lexeme.In ∷ lexeme.Two ∷ lexeme.Hour ∷ []) (is (weekday 4) 2)
    ∷ row (lexeme.March ∷ Num 4 ∷ lexeme.In ∷ Num 3 ∷ lexeme.Year ∷ []) (is (date_expression_after (MonthDay 3 4) (of 3 Year)) 5)
    ∷ row
    (lexeme.March ∷ Num 4 ∷ lexeme.Comma ∷ Written 4 2027 ∷ lexeme.In ∷ Num 3 ∷ lexeme.Year ∷ [])
    (is (date_expression_after (MonthDayYear 3 4 2027) (of 3 Year)) 7)
    ∷ []

-- each row is what `date_expr_of` gives
pub read_as_listed : (map (λ c. date_expr_of First c.lexemes) cases ≡ map (λ c. c.reading) cases)
    × (map (λ c. date_expr_of Second c.lexemes) second_cases ≡ map (λ c. c.reading) second_cases)
unfolding cases second_cases get is_at within fits_of number.is_ending number.word_of number.literal_of number.ones_of number.teens_of number.tens_of
    number.tens_ones_of number.num_double_of number.sum_of number.tail_of number.hundreds_of number.num_triple_of number.num_triple_unit_of
    number.units_of number.num_step turns again number.num_of is_article unit_of month_of weekday_of relative_specifier_of specific_of article_of
    concrete_of duration_turn duration_of named_day_of day_month_year_of month_day_of is_delim three_numbers_of two_numbers_of behind_second_of
    delimited_of date_of in_tail_of duration_tail_of tail_of with_duration_of relative_expr_of weekday_expr_of undated_of date_expr_of
read_as_listed = (refl, refl)
