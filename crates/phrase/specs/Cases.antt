-- Worked phrases: what is read of each, from its bytes, computed, under each reading.
use Rattle.std.specs.Prelude.{◌≡◌, refl, List, [], ◌∷◌, map, ℕ}
use Prim.Native.String.{String}
use Rattle.digits.specs.Bytes.{bytes_of}
use Rattle.lexer.specs.Keywords.{keywords, words_in}
use Rattle.lexer.specs.declared.reading.Reading.{Reading}
use Rattle.lexer.specs.declared.reading.Reading.TheVariants.{First, Second}
use Rattle.lexer.specs.Classes.{class_of, mark_of}
use Rattle.refusals.specs.declared.Reason.TheVariants as table
use Rattle.refusals.specs.Answers.{refuse}
use Rattle.lexer.specs.Lex.{word_at, number_at, token_at, lexed}
use Rattle.numbers.specs.Slices.{get, is_at, within}
use Rattle.numbers.specs.Answers.{fits_of}
use Rattle.numbers.specs.Numbers.{is_ending, word_of, literal_of, ones_of, teens_of, tens_of, tens_ones_of, num_double_of, sum_of, hundreds_of}
use Rattle.numbers.specs.Numbers.{tail_of as num_tail_of, num_triple_of, num_triple_unit_of, units_of, num_step, num_of}
use Rattle.dates.specs.Units.{is_article, unit_of, month_of, weekday_of, relative_specifier_of}
use Rattle.numbers.specs.Again.{turns, again}
use Rattle.dates.specs.Durations.{part, specific_of, article_of, concrete_of, duration_turn, duration_of}
use Rattle.dates.specs.Dates.{named_day_of, day_month_year_of, month_day_of, is_delim, three_numbers_of, two_numbers_of, behind_second_of, delimited_of}
use Rattle.dates.specs.Dates.{date_of}
use Rattle.dates.specs.Times.{minute_of, half_of, clock_of, time_of}
use Rattle.dates.specs.declared.units.Unit.TheVariants.{Day, Hour}
use Rattle.dates.specs.declared.units.RelativeSpecifier.TheVariants.{Next}
use Rattle.dates.specs.declared.duration.Part.TheVariants.{Article, Specific}
use Rattle.dates.specs.declared.date.Date.TheVariants.{MonthDay, MonthDayYear, Today, Tomorrow, Empty as NoDate}
use Rattle.dates.specs.declared.time.Time.TheVariants.{HourMin, HourMinPM, Empty as NoTime}
use Rattle.expressions.specs.Tree.{date, relative_weekday, before, after, weekday, empty}
use Rattle.phrase.specs.Tree.{date_time, time_date, duration_after}
use Rattle.phrase.specs.Tree.{duration_before, now}
use Rattle.expressions.specs.DateExprs.{in_tail_of, duration_tail_of, tail_of, with_duration_of, relative_expr_of, weekday_expr_of, undated_of}
use Rattle.expressions.specs.DateExprs.{date_expr_of}
use Rattle.phrase.specs.DateTimes.{time_behind_of, with_duration_of as duration_turn_of, timed_turn_of, undated_turn_of, turn_of}
use Rattle.phrase.specs.DateTimes.{date_time_step, date_time_of}
use Rattle.phrase.specs.Read.{ReadPhrase, reads, read_of}

-- a row: the phrase, and what is read of it
pub record Case : Type 0 where
  pub phrase : List ℕ
  pub reading : ReadPhrase

abbrev row : String → ReadPhrase → Case
row s r = record { phrase = bytes_of s; reading = r }

-- the table of the first reading
unfoldable pub cases : List Case
cases =
    -- each alternative of `DateTime::parse`
    row "now" (reads now 1)
    ∷ row "next friday at 3 pm" (reads (date_time (relative_weekday Next 4) (HourMinPM 3 0)) 5)
    ∷ row "tomorrow, 5:00" (reads (date_time (date Tomorrow) (HourMin 5 0)) 5)
    ∷ row "5 days after tomorrow at noon" (reads (date_time (after (part (Specific Day 5)) Tomorrow) (HourMin 12 0)) 6)
    ∷ row "an hour from now" (reads (duration_after (part (Article Hour)) now) 4)
    ∷ row "an hour after today" (reads (duration_after (part (Article Hour)) (date_time (date Today) NoTime)) 4)
    ∷ row
    "an hour before 5 days ago"
    (reads (duration_before (part (Article Hour)) (date_time (before (part (Specific Day 5)) NoDate) NoTime)) 6)
    ∷ row "two hours ago" (reads (duration_before (part (Specific Hour 2)) now) 3)
    ∷ row "5 pm on friday" (reads (time_date (HourMinPM 5 0) (weekday 4)) 4)
    ∷ row "5" (reads (time_date (HourMin 5 0) empty) 1)
    -- a comma, "at" or "on" is taken with nothing behind it
    ∷ row "today at" (reads (date_time (date Today) NoTime) 2)
    ∷ row "5 pm, " (reads (time_date (HourMinPM 5 0) empty) 3)
    -- "next" behind a weekday is passed
    ∷ row "friday next 5:00" (reads (date_time (weekday 4) (HourMin 5 0)) 5)
    -- lexemes are left: from the first of them to the phrase's end
    ∷ row "5/2" (refuse table.LeftOver 1 3)
    ∷ row "march 24th" (refuse table.LeftOver 8 10)
    -- nothing is read
    ∷ row "" (refuse table.Nothing 0 0)
    ∷ row "5 days after" (refuse table.Nothing 0 0)
    -- a number passes 4,294,967,295, also where its alternative would have been given up
    ∷ row "five billion days ago" (refuse table.LargeSum 0 0)
    ∷ row "5 pm five billion" (refuse table.LargeSum 0 0)
    -- lexing refuses first
    ∷ row "forty days ago" (refuse table.Unknown 0 5)
    ∷ []

-- the table of the second reading: any ending behind a literal, the usual spellings, and a comma that goes with a year, else with a time
unfoldable pub second_cases : List Case
second_cases =
    row "march 24th" (reads (date_time (date (MonthDay 3 24)) NoTime) 3)
    ∷ row "forty days ago" (reads (date_time (before (part (Specific Day 40)) NoDate) NoTime) 3)
    ∷ row "march 3, 2027, 5 pm" (reads (date_time (date (MonthDayYear 3 3 2027)) (HourMinPM 5 0)) 7)
    ∷ row "march 3, 5 pm" (reads (date_time (date (MonthDay 3 3)) (HourMinPM 5 0)) 5)
    ∷ []

-- each row of a table is what `read_of` gives in a reading
abbrev Listed : Reading → List Case → Type 0
Listed reading rows = map (λ c. read_of reading (words_in reading) c.phrase) rows ≡ map (λ c. c.reading) rows

pub read_as_listed : Listed First cases × Listed Second second_cases
unfolding cases second_cases keywords words_in class_of mark_of word_at number_at token_at lexed get is_at within is_ending word_of literal_of ones_of teens_of
    tens_of tens_ones_of num_double_of sum_of num_tail_of hundreds_of num_triple_of num_triple_unit_of fits_of units_of num_step turns again num_of
    is_article unit_of month_of weekday_of relative_specifier_of specific_of article_of concrete_of duration_turn duration_of named_day_of
    day_month_year_of month_day_of is_delim three_numbers_of two_numbers_of behind_second_of delimited_of date_of minute_of half_of clock_of time_of
    in_tail_of duration_tail_of tail_of with_duration_of relative_expr_of weekday_expr_of undated_of date_expr_of time_behind_of duration_turn_of
    timed_turn_of undated_turn_of turn_of date_time_step date_time_of read_of
read_as_listed = (refl, refl)
