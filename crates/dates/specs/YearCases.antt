-- Worked cases of the year behind month and day: any number in the first reading, a run of four digits in the second, also behind a comma.
use Rattle.std.specs.Prelude.{◌≡◌, refl, List, [], ◌∷◌, map, ℕ}
use Rattle.lexer.specs.Lexemes as lexeme
use Rattle.lexer.specs.declared.reading.Reading.TheVariants.{First, Second}
use Rattle.numbers.specs.Slices.{get, is_at, within}
use Rattle.numbers.specs.Again.{turns, again}
use Rattle.numbers.specs.Answers.{fits_of}
use Rattle.numbers.specs.Numbers.{is_ending, word_of, literal_of, ones_of, teens_of, tens_of, tens_ones_of, num_double_of, sum_of, tail_of, hundreds_of, num_triple_of, num_triple_unit_of, units_of, num_step, num_of}
use Rattle.dates.specs.Parsed.{Parsed, is, nothing, overflow}
use Rattle.dates.specs.Rows.{Written}
use Rattle.dates.specs.Units.{month_of}
use Rattle.dates.specs.Dates.{named_day_of, day_month_year_of, month_day_of, is_delim, three_numbers_of, two_numbers_of, behind_second_of, delimited_of, date_of}
use Rattle.dates.specs.declared.date.Date.{Date}
use Rattle.dates.specs.declared.date.Date.TheVariants.{DayMonthYear, MonthDayYear, MonthNumDayYear, MonthDay}

-- a row: the lexemes, and the date that each reading has of them
pub record Case : Type 0 where
  pub lexemes : List ℕ
  pub first : Parsed Date
  pub second : Parsed Date

abbrev row : List ℕ → Parsed Date → Parsed Date → Case
row l a b = record { lexemes = l; first = a; second = b }

-- march 3, and what stands behind it
abbrev march3 : List ℕ → List ℕ
march3 l = lexeme.March ∷ Written 1 3 ∷ l

-- the table
unfoldable pub cases : List Case
cases =
    -- "march 3 5 pm", "march 3 2027 5 pm", "march 3 0027"
    row (march3 (Written 1 5 ∷ lexeme.PM ∷ [])) (is (MonthDayYear 3 3 5) 3) (is (MonthDay 3 3) 2)
    ∷ row (march3 (Written 4 2027 ∷ Written 1 5 ∷ lexeme.PM ∷ [])) (is (MonthDayYear 3 3 2027) 3) (is (MonthDayYear 3 3 2027) 3)
    ∷ row (march3 (Written 4 27 ∷ [])) (is (MonthDayYear 3 3 27) 3) (is (MonthDayYear 3 3 27) 3)
    -- three and five digits, and no digits
    ∷ row (march3 (Written 3 27 ∷ [])) (is (MonthDayYear 3 3 27) 3) (is (MonthDay 3 3) 2)
    ∷ row (march3 (Written 5 2027 ∷ [])) (is (MonthDayYear 3 3 2027) 3) (is (MonthDay 3 3) 2)
    ∷ row (march3 (lexeme.Twenty ∷ [])) (is (MonthDayYear 3 3 20) 3) (is (MonthDay 3 3) 2)
    -- four digits that are not the whole number; a number that passes the limit
    ∷ row (march3 (Written 4 1 ∷ lexeme.Hundred ∷ [])) (is (MonthDayYear 3 3 100) 4) (is (MonthDay 3 3) 2)
    ∷ row (march3 (lexeme.Five ∷ lexeme.Billion ∷ [])) overflow overflow
    -- "march 3, 2027", "march 3, 5", "march 3, five billion", "march 24th, 2027": a comma belongs to the year alone
    ∷ row (march3 (lexeme.Comma ∷ Written 4 2027 ∷ [])) (is (MonthDay 3 3) 2) (is (MonthDayYear 3 3 2027) 4)
    ∷ row (march3 (lexeme.Comma ∷ Written 1 5 ∷ [])) (is (MonthDay 3 3) 2) (is (MonthDay 3 3) 2)
    ∷ row (march3 (lexeme.Comma ∷ lexeme.Five ∷ lexeme.Billion ∷ [])) (is (MonthDay 3 3) 2) overflow
    ∷ row (lexeme.March ∷ Written 2 24 ∷ lexeme.TH ∷ lexeme.Comma ∷ Written 4 2027 ∷ []) (is (MonthDay 3 24) 2) (is (MonthDayYear 3 24 2027) 5)
    -- no comma stands before the year of "3 march, 2027"
    ∷ row (Written 1 3 ∷ lexeme.March ∷ lexeme.Comma ∷ Written 4 2027 ∷ []) nothing nothing
    -- the day is any number, and so is a year elsewhere
    ∷ row (lexeme.March ∷ Written 4 3 ∷ []) (is (MonthDay 3 3) 2) (is (MonthDay 3 3) 2)
    ∷ row (Written 1 3 ∷ lexeme.March ∷ Written 1 5 ∷ []) (is (DayMonthYear 3 3 5) 3) (is (DayMonthYear 3 3 5) 3)
    ∷ row (Written 1 5 ∷ lexeme.Slash ∷ Written 1 2 ∷ lexeme.Slash ∷ Written 2 22 ∷ []) (is (MonthNumDayYear 5 2 22) 5) (is (MonthNumDayYear 5 2 22) 5)
    ∷ []

-- each row is read as listed
pub years_as_listed : map (λ (c : Case). row c.lexemes (date_of First c.lexemes) (date_of Second c.lexemes)) cases ≡ cases
unfolding cases get is_at within is_ending word_of literal_of ones_of teens_of tens_of tens_ones_of num_double_of sum_of tail_of hundreds_of
    num_triple_of num_triple_unit_of fits_of units_of num_step turns again num_of month_of
    named_day_of day_month_year_of month_day_of is_delim three_numbers_of two_numbers_of behind_second_of delimited_of date_of
years_as_listed = refl
