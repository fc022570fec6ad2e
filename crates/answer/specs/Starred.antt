-- "The starred cases form a single table, proved by a single statement about the definitions": phrases of bytes at the paper's A and B.
use Rattle.refusals.specs.declared.Reason.TheVariants.{Unknown, LargeSum, LeftOver, NoTime, Outside, NoLeapDay}
use Rattle.std.specs.Prelude.{◌≡◌, refl, List, [], ◌∷◌, map, ℕ}
use Prim.Native.String.{String}
use Rattle.digits.specs.Bytes.{bytes_of}
use Rattle.lexer.specs.Keywords.{keywords, words_in}
use Rattle.lexer.specs.declared.reading.Reading.{Reading}
use Rattle.lexer.specs.declared.reading.Reading.TheVariants.{First, Second}
use Rattle.lexer.specs.Classes.{class_of, mark_of}
use Rattle.lexer.specs.Lex.{word_at, number_at, token_at, lexed}
use Rattle.numbers.specs.Again.{turns, again}
use Rattle.numbers.specs.Slices.{get, is_at, within}
use Rattle.numbers.specs.Answers.{fits_of}
use Rattle.numbers.specs.Numbers.{is_ending, word_of, literal_of, ones_of, teens_of, tens_of, tens_ones_of, num_double_of, sum_of, hundreds_of}
use Rattle.numbers.specs.Numbers.{tail_of as num_tail_of, num_triple_of, num_triple_unit_of, units_of, num_step, num_of}
use Rattle.dates.specs.Units.{is_article, unit_of, month_of as named_month_of, weekday_of, relative_specifier_of}
use Rattle.dates.specs.Durations.{specific_of, article_of, concrete_of, duration_turn, duration_of}
use Rattle.dates.specs.Dates.{named_day_of, day_month_year_of, month_day_of, is_delim, three_numbers_of, two_numbers_of, behind_second_of, delimited_of}
use Rattle.dates.specs.Dates.{date_of}
use Rattle.dates.specs.Times.{minute_of, half_of, clock_of, time_of}
use Rattle.expressions.specs.DateExprs.{in_tail_of, duration_tail_of, tail_of, with_duration_of, relative_expr_of, weekday_expr_of, undated_of}
use Rattle.expressions.specs.DateExprs.{date_expr_of}
use Rattle.phrase.specs.DateTimes.{time_behind_of, with_duration_of as duration_turn_of, timed_turn_of, undated_turn_of, turn_of}
use Rattle.phrase.specs.DateTimes.{date_time_step, date_time_of}
use Rattle.phrase.specs.Read.{read_of}
use Rattle.calendar.specs.Gregorian.{leap_year, month_length, days_before_month, days_of_years, day_number}
use Rattle.calendar.specs.Gregorian.{years_before, year_of, day_of_year, month_of, month_of_day, day_of}
use Rattle.calendar.specs.Moments.{is_date, is_time, is_moment, moment_of, with_date}
use Rattle.calendar.specs.Moments.{on_day, minutes_step, months_step, years_step}
use Rattle.calendar.specs.declared.moments.Moment.{Moment}
use Rattle.evaluation.specs.Weekdays.{days_back}
use Rattle.evaluation.specs.Evaluate.{evaluate_in}
use Rattle.refusals.specs.Answers.{Answer, given, refuse}
use Rattle.answer.specs.Answer.{answer_of}
use Rattle.evaluation.specs.Cases.{A, B}

-- a row: now, the phrase's bytes, and the answer
pub record Starred : Type 0 where
  pub from : Moment
  pub phrase : List ℕ
  pub answer : Answer Moment

abbrev row : Moment → String → Answer Moment → Starred
row n s a = record { from = n; phrase = bytes_of s; answer = a }

-- "Unless stated, the now is A and the time is now's."
abbrev day : ℕ → ℕ → ℕ → Answer Moment
day y m d = given (with_date y m d A)

-- a date at A with a stated time
abbrev clock : ℕ → ℕ → ℕ → ℕ → Answer Moment
clock y m d h = given (moment_of y m d h 0 0 0)

-- the table; a refusal has its number, its place and the end of its part
unfoldable pub starred : List Starred
starred =
    row A "friday" (day 2026 2 13)
    ∷ row A "next friday" (day 2026 2 20)
    ∷ row A "tuesday in two weeks" (day 2026 1 27)
    ∷ row A "friday next 5:00" (clock 2026 2 13 5)
    ∷ row A "5/2/2022" (day 2022 5 2)
    ∷ row A "5.2.2022" (day 2022 2 5)
    ∷ row A "5/2" (refuse LeftOver 1 3)
    ∷ row A "5/2 at noon" (clock 2026 5 2 12)
    ∷ row A "march 4th" (day 2026 3 4)
    ∷ row A "march 24th" (refuse LeftOver 8 10)
    ∷ row A "january 1, 2010" (refuse NoTime 0 0)
    ∷ row A "four billion days ago" (refuse Outside 0 0)
    ∷ row A "five billion days ago" (refuse LargeSum 0 0)
    ∷ row B "a year from now" (refuse NoLeapDay 0 0)
    ∷ row B "12 months from now" (given (with_date 2025 2 28 B))
    ∷ []

-- a row: the reading, and the rest
pub record Under : Type 0 where
  pub reading : Reading
  pub case : Starred

abbrev under : Reading → String → Answer Moment → Under
under r s a = record { reading = r; case = row A s a }

-- where the readings differ: "in" behind a weekday goes back to the weekday, or on to it, that day included, and "ago" goes back under both;
-- the year behind month and day is any number, or a run of four digits, also behind a comma; any ending may stand behind a literal; and
-- the usual spellings are words
unfoldable pub both : List Under
both =
    under First "tuesday in two weeks" (day 2026 1 27)
    ∷ under Second "tuesday in two weeks" (day 2026 3 3)
    ∷ under Second "wednesday in two weeks" (day 2026 2 25)
    ∷ under First "tuesday two weeks ago" (day 2026 1 27)
    ∷ under Second "tuesday two weeks ago" (day 2026 1 27)
    ∷ under First "march 3 5 pm" (refuse LeftOver 10 12)
    ∷ under Second "march 3 5 pm" (clock 2026 3 3 17)
    ∷ under Second "march 3 2027 5 pm" (clock 2027 3 3 17)
    ∷ under Second "march 3 0027" (day 27 3 3)
    ∷ under Second "march 3 twenty" (clock 2026 3 3 20)
    ∷ under First "march 3, 2027" (refuse NoTime 0 0)
    ∷ under Second "march 3, 2027" (day 2027 3 3)
    ∷ under Second "march 3, 5 pm" (clock 2026 3 3 17)
    ∷ under Second "march 24th" (day 2026 3 24)
    ∷ under Second "march 24th, 2027" (day 2027 3 24)
    ∷ under Second "january 1, 2010 5:00" (clock 2010 1 1 5)
    ∷ under Second "january 1, 5:00" (clock 2026 1 1 5)
    ∷ under Second "1 january, 2010" (refuse LeftOver 2 15)
    ∷ under Second "eighth of march" (refuse Unknown 7 9)
    ∷ under Second "1001st day from now" (day 2028 11 8)
    ∷ under First "forty days ago" (refuse Unknown 0 5)
    ∷ under Second "forty days ago" (day 2026 1 2)
    ∷ []

-- each phrase answers as the paper's table has it, in the first reading, and as listed in both
pub starred_as_listed : (map (λ c. answer_of First (words_in First) c.phrase c.from) starred ≡ map (λ c. c.answer) starred)
    × (map (λ c. answer_of c.reading (words_in c.reading) c.case.phrase c.case.from) both ≡ map (λ c. c.case.answer) both)
unfolding starred both keywords words_in class_of mark_of word_at number_at token_at lexed turns again get is_at within fits_of is_ending word_of
    literal_of ones_of teens_of tens_of tens_ones_of num_double_of sum_of hundreds_of num_tail_of num_triple_of num_triple_unit_of units_of num_step num_of
    is_article unit_of named_month_of weekday_of relative_specifier_of specific_of article_of concrete_of duration_turn duration_of named_day_of
    day_month_year_of month_day_of is_delim three_numbers_of two_numbers_of behind_second_of delimited_of date_of minute_of half_of clock_of time_of
    in_tail_of duration_tail_of tail_of with_duration_of relative_expr_of weekday_expr_of undated_of date_expr_of time_behind_of duration_turn_of
    timed_turn_of undated_turn_of turn_of date_time_step date_time_of read_of leap_year month_length days_before_month days_of_years day_number years_before
    year_of day_of_year month_of month_of_day day_of is_date is_time is_moment on_day minutes_step months_step years_step
    days_back evaluate_in answer_of
starred_as_listed = (refl, refl)
