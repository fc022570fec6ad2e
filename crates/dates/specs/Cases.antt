-- Worked cases: what `Date::parse` and `Time::parse` give for each row of lexemes, and what the readers of one lexeme give for
-- each word, computed.
use Rattle.std.specs.Prelude.{◌≡◌, refl, Bool, true, false, List, [], ◌∷◌, map, ℕ}
use Rattle.lexer.specs.Lexemes as lexeme
use Rattle.lexer.specs.declared.reading.Reading.TheVariants.{First}
use Rattle.numbers.specs.Slices.{get, is_at, within}
use Rattle.numbers.specs.Answers.{fits_of}
use Rattle.numbers.specs.Numbers.{is_ending, word_of, literal_of, ones_of, teens_of, tens_of, tens_ones_of, num_double_of, sum_of, tail_of, hundreds_of}
use Rattle.numbers.specs.Numbers.{num_triple_of, num_triple_unit_of, units_of, num_step, num_of}
use Rattle.numbers.specs.Again.{turns, again}
use Rattle.dates.specs.Parsed.{Parsed, is, nothing, overflow}
use Rattle.dates.specs.Rows.{Num}
use Rattle.dates.specs.declared.units.Unit.{Unit}
use Rattle.dates.specs.declared.units.Unit.TheVariants.{Day, Week, Hour, Minute, Month, Year}
use Rattle.dates.specs.declared.units.RelativeSpecifier.{RelativeSpecifier}
use Rattle.dates.specs.declared.units.RelativeSpecifier.TheVariants.{This, Next, Last}
use Rattle.dates.specs.Units.{is_article, unit_of, month_of, weekday_of, relative_specifier_of}
use Rattle.dates.specs.declared.date.Date.{Date}
use Rattle.dates.specs.declared.date.Date.TheVariants.{YearMonthNumDay, MonthNumDayYear, DayMonthYear, MonthDayYear, MonthNumDay, MonthDay}
use Rattle.dates.specs.declared.date.Date.TheVariants.{Today, Tomorrow, Yesterday}
use Rattle.dates.specs.Dates.{named_day_of, day_month_year_of, month_day_of, is_delim, three_numbers_of, two_numbers_of, behind_second_of}
use Rattle.dates.specs.Dates.{delimited_of, date_of}
use Rattle.dates.specs.declared.time.Time.{Time}
use Rattle.dates.specs.declared.time.Time.TheVariants.{HourMin, HourMinAM, HourMinPM}
use Rattle.dates.specs.Times.{minute_of, half_of, clock_of, time_of}

-- a row: the lexemes, what is read of them as a date, and what as a time
pub record Case : Type 0 where
  pub lexemes : List ℕ
  pub date : Parsed Date
  pub time : Parsed Time

-- a word and what each reader of one lexeme makes of it
pub record Word : Type 0 where
  pub word : ℕ
  pub article : Bool
  pub unit : Parsed Unit
  pub month : Parsed ℕ
  pub weekday : Parsed ℕ
  pub specifier : Parsed RelativeSpecifier

abbrev row : List ℕ → Parsed Date → Parsed Time → Case
row l d t = record { lexemes = l; date = d; time = t }

-- a number alone, as a time
abbrev hour : ℕ → ℕ → Parsed Time
hour n t = is (HourMin n 0) t

-- the table
unfoldable pub cases : List Case
cases =
    row [] nothing nothing
    -- named days
    ∷ row (lexeme.Today ∷ []) (is Today 1) nothing
    ∷ row (lexeme.Tomorrow ∷ []) (is Tomorrow 1) nothing
    ∷ row (lexeme.Yesterday ∷ []) (is Yesterday 1) nothing
    -- <num> <month> <num>; the dash belongs to the number; without a year the alternative is given up
    ∷ row (Num 20 ∷ lexeme.March ∷ Num 2024 ∷ []) (is (DayMonthYear 20 3 2024) 3) (hour 20 1)
    ∷ row (lexeme.Twenty ∷ lexeme.Dash ∷ lexeme.March ∷ Num 2024 ∷ []) (is (DayMonthYear 20 3 2024) 4) (hour 20 2)
    ∷ row (Num 20 ∷ lexeme.March ∷ []) nothing (hour 20 1)
    -- <month> <num> [<num>]; behind a month with no number there is no date
    ∷ row (lexeme.March ∷ []) nothing nothing
    ∷ row (lexeme.March ∷ lexeme.March ∷ Num 4 ∷ []) nothing nothing
    ∷ row (lexeme.March ∷ Num 4 ∷ lexeme.RD ∷ []) (is (MonthDay 3 4) 3) nothing
    ∷ row (lexeme.March ∷ Num 24 ∷ lexeme.RD ∷ []) (is (MonthDay 3 24) 2) nothing
    ∷ row (lexeme.January ∷ Num 1 ∷ Num 2010 ∷ []) (is (MonthDayYear 1 1 2010) 3) nothing
    ∷ row (lexeme.January ∷ Num 1 ∷ lexeme.Comma ∷ Num 2010 ∷ []) (is (MonthDay 1 1) 2) nothing
    ∷ row (lexeme.March ∷ Num 3 ∷ Num 5 ∷ lexeme.PM ∷ []) (is (MonthDayYear 3 3 5) 3) nothing
    -- three numbers: year first above 1000, day first behind a dot, else month first
    ∷ row (Num 5 ∷ lexeme.Slash ∷ Num 2 ∷ lexeme.Slash ∷ Num 2022 ∷ []) (is (MonthNumDayYear 5 2 2022) 5) (hour 5 1)
    ∷ row (Num 5 ∷ lexeme.Dash ∷ Num 2 ∷ lexeme.Dash ∷ Num 2022 ∷ []) (is (MonthNumDayYear 5 2 2022) 5) (hour 5 1)
    ∷ row (Num 5 ∷ lexeme.Dot ∷ Num 2 ∷ lexeme.Dot ∷ Num 2022 ∷ []) (is (MonthNumDayYear 2 5 2022) 5) (hour 5 1)
    ∷ row (Num 1000 ∷ lexeme.Slash ∷ Num 1 ∷ lexeme.Slash ∷ Num 1 ∷ []) (is (MonthNumDayYear 1000 1 1) 5) (hour 1000 1)
    ∷ row (Num 1001 ∷ lexeme.Slash ∷ Num 1 ∷ lexeme.Slash ∷ Num 2 ∷ []) (is (YearMonthNumDay 1001 1 2) 5) (hour 1001 1)
    ∷ row (Num 1001 ∷ lexeme.Dot ∷ Num 1 ∷ lexeme.Dot ∷ Num 2 ∷ []) (is (YearMonthNumDay 1001 1 2) 5) (hour 1001 1)
    -- two numbers, where something else than the same delimiter follows; nothing where nothing follows or the third is missing
    ∷ row (Num 5 ∷ lexeme.Slash ∷ Num 2 ∷ lexeme.At ∷ []) (is (MonthNumDay 5 2) 3) (hour 5 1)
    ∷ row (Num 5 ∷ lexeme.Dot ∷ Num 2 ∷ lexeme.At ∷ []) (is (MonthNumDay 2 5) 3) (hour 5 1)
    ∷ row (Num 5 ∷ lexeme.Slash ∷ Num 2 ∷ lexeme.Dot ∷ Num 2022 ∷ []) (is (MonthNumDay 5 2) 3) (hour 5 1)
    ∷ row (Num 5 ∷ lexeme.Slash ∷ Num 2 ∷ []) nothing (hour 5 1)
    ∷ row (Num 5 ∷ lexeme.Slash ∷ Num 2 ∷ lexeme.Slash ∷ []) nothing (hour 5 1)
    ∷ row (Num 5 ∷ lexeme.Slash ∷ lexeme.At ∷ []) nothing (hour 5 1)
    ∷ row (Num 5 ∷ lexeme.Comma ∷ Num 2 ∷ lexeme.At ∷ []) nothing (hour 5 1)
    -- times; a colon is taken also with no number behind it, and am and pm go with the number as it is
    ∷ row (lexeme.Midnight ∷ lexeme.PM ∷ []) nothing (is (HourMin 0 0) 1)
    ∷ row (lexeme.Noon ∷ []) nothing (is (HourMin 12 0) 1)
    ∷ row (Num 5 ∷ []) nothing (hour 5 1)
    ∷ row (Num 5 ∷ lexeme.Colon ∷ []) nothing (hour 5 2)
    ∷ row (Num 5 ∷ lexeme.Colon ∷ Num 0 ∷ []) nothing (hour 5 3)
    ∷ row (Num 5 ∷ lexeme.Colon ∷ Num 30 ∷ lexeme.PM ∷ []) nothing (is (HourMinPM 5 30) 4)
    ∷ row (Num 5 ∷ lexeme.Colon ∷ lexeme.AM ∷ []) nothing (is (HourMinAM 5 0) 3)
    ∷ row (Num 12 ∷ lexeme.AM ∷ lexeme.PM ∷ []) nothing (is (HourMinAM 12 0) 2)
    ∷ row (Num 25 ∷ lexeme.PM ∷ []) nothing (is (HourMinPM 25 0) 2)
    ∷ row (lexeme.PM ∷ []) nothing nothing
    -- an overflow stops the reading, also in an alternative that would have been given up
    ∷ row (lexeme.Five ∷ lexeme.Billion ∷ lexeme.March ∷ []) overflow overflow
    ∷ row (Num 20 ∷ lexeme.March ∷ lexeme.Five ∷ lexeme.Billion ∷ []) overflow (hour 20 1)
    ∷ row (lexeme.March ∷ lexeme.Five ∷ lexeme.Billion ∷ []) overflow nothing
    ∷ row (lexeme.March ∷ Num 4 ∷ lexeme.Five ∷ lexeme.Billion ∷ []) overflow nothing
    ∷ row (Num 5 ∷ lexeme.Slash ∷ lexeme.Five ∷ lexeme.Billion ∷ []) overflow (hour 5 1)
    ∷ row (Num 5 ∷ lexeme.Slash ∷ Num 2 ∷ lexeme.Slash ∷ lexeme.Five ∷ lexeme.Billion ∷ []) overflow (hour 5 1)
    ∷ row (Num 5 ∷ lexeme.Colon ∷ lexeme.Five ∷ lexeme.Billion ∷ []) nothing overflow
    ∷ []

-- a word with no meaning for these readers, and the words of each of them
abbrev no_sense : ℕ → Word
no_sense x = record { word = x; article = false; unit = nothing; month = nothing; weekday = nothing; specifier = nothing }

abbrev article : ℕ → Word
article x = record { word = x; article = true; unit = nothing; month = nothing; weekday = nothing; specifier = nothing }

abbrev unit : ℕ → Unit → Word
unit x u = record { word = x; article = false; unit = is u 1; month = nothing; weekday = nothing; specifier = nothing }

abbrev month : ℕ → ℕ → Word
month x n = record { word = x; article = false; unit = nothing; month = is n 1; weekday = nothing; specifier = nothing }

abbrev weekday : ℕ → ℕ → Word
weekday x n = record { word = x; article = false; unit = nothing; month = nothing; weekday = is n 1; specifier = nothing }

abbrev specifier : ℕ → RelativeSpecifier → Word
specifier x s = record { word = x; article = false; unit = nothing; month = nothing; weekday = nothing; specifier = is s 1 }

-- every word that one of them takes, and the neighbours of their codes
unfoldable pub words : List Word
words =
    no_sense 0
    ∷ no_sense lexeme.Ninety
    ∷ article lexeme.A
    ∷ article lexeme.An
    ∷ no_sense lexeme.On
    ∷ no_sense lexeme.At
    ∷ article lexeme.The
    ∷ no_sense lexeme.Dash
    ∷ specifier lexeme.This This
    ∷ specifier lexeme.Next Next
    ∷ weekday lexeme.Monday 0
    ∷ weekday lexeme.Tuesday 1
    ∷ weekday lexeme.Wednesday 2
    ∷ weekday lexeme.Thursday 3
    ∷ weekday lexeme.Friday 4
    ∷ weekday lexeme.Saturday 5
    ∷ weekday lexeme.Sunday 6
    ∷ month lexeme.January 1
    ∷ month lexeme.February 2
    ∷ month lexeme.March 3
    ∷ month lexeme.April 4
    ∷ month lexeme.May 5
    ∷ month lexeme.June 6
    ∷ month lexeme.July 7
    ∷ month lexeme.August 8
    ∷ month lexeme.September 9
    ∷ month lexeme.October 10
    ∷ month lexeme.November 11
    ∷ month lexeme.December 12
    ∷ no_sense lexeme.AM
    ∷ no_sense lexeme.PM
    ∷ unit lexeme.Day Day
    ∷ unit lexeme.Week Week
    ∷ unit lexeme.Hour Hour
    ∷ unit lexeme.Minute Minute
    ∷ unit lexeme.Month Month
    ∷ unit lexeme.Year Year
    ∷ no_sense lexeme.Slash
    ∷ specifier lexeme.Last Last
    ∷ no_sense (Num 5)
    ∷ []

-- what the readers make of the lexemes of a row, in the first reading, and of a word
abbrev read_case : Case → Case
read_case c = row c.lexemes (date_of First c.lexemes) (time_of First c.lexemes)

abbrev read_word : Word → Word
read_word w =
    let l = w.word ∷ [] in
    record {
      word = w.word;
      article = is_article l;
      unit = unit_of l;
      month = month_of l;
      weekday = weekday_of l;
      specifier = relative_specifier_of l;
    }

-- each row and each word is read as listed
pub read_as_listed : (map read_case cases ≡ cases) × (map read_word words ≡ words)
unfolding cases words get is_at within is_ending word_of literal_of ones_of teens_of tens_of tens_ones_of num_double_of sum_of tail_of hundreds_of
    num_triple_of num_triple_unit_of fits_of units_of num_step turns again num_of
    is_article unit_of month_of weekday_of relative_specifier_of
    named_day_of day_month_year_of month_day_of is_delim three_numbers_of two_numbers_of behind_second_of delimited_of date_of
    minute_of half_of clock_of time_of
read_as_listed = (refl, refl)
