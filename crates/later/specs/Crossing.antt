-- "The equal time of day is needed: "a month from now" late on 30 January and early on the 31st may cross."
use Rattle.std.specs.Prelude.{ℕ, ◌<◌, ◌≡◌, refl, List}
use Rattle.std.proofs.Common.{lit<}
use Rattle.refusals.specs.Answers.{given}
use Rattle.digits.specs.Bytes.{bytes_of}
use Rattle.lexer.specs.Keywords.{keywords, words_in}
use Rattle.lexer.specs.declared.reading.Reading.{Reading}
use Rattle.lexer.specs.declared.reading.Reading.TheVariants.{First, Second}
use Rattle.lexer.specs.Classes.{class_of}
use Rattle.lexer.specs.Lex.{word_at, token_at, lexed}
use Rattle.numbers.specs.Again.{turns, again}
use Rattle.numbers.specs.Slices.{get, is_at, within}
use Rattle.numbers.specs.Numbers.{word_of, literal_of, ones_of, teens_of, tens_of, tens_ones_of, num_double_of, sum_of, hundreds_of}
use Rattle.numbers.specs.Numbers.{tail_of as num_tail_of, num_triple_of, num_triple_unit_of, units_of, num_step, num_of}
use Rattle.dates.specs.Units.{is_article, unit_of, month_of as named_month_of, weekday_of, relative_specifier_of}
use Rattle.dates.specs.Durations.{specific_of, article_of, concrete_of, duration_turn, duration_of}
use Rattle.dates.specs.Dates.{named_day_of, day_month_year_of, month_day_of, is_delim, three_numbers_of, two_numbers_of, behind_second_of, delimited_of}
use Rattle.dates.specs.Dates.{date_of}
use Rattle.dates.specs.Times.{minute_of, half_of, clock_of, time_of}
use Rattle.expressions.specs.DateExprs.{in_tail_of, duration_tail_of, tail_of, with_duration_of, relative_expr_of, weekday_expr_of, undated_of}
use Rattle.expressions.specs.DateExprs.{date_expr_of}
use Rattle.phrase.specs.DateTimes.{time_behind_of, with_duration_of as duration_turn_of, timed_turn_of, undated_turn_of, turn_of}
use Rattle.phrase.specs.DateTimes.{date_time_step, date_time_of}
use Rattle.phrase.specs.Read.{read_of}
use Rattle.calendar.specs.Gregorian.{leap_year, month_length, days_before_month, days_of_years, day_number}
use Rattle.calendar.specs.Moments.{is_date, is_time, is_moment, moment_of, with_date, instant_of, months_step}
use Rattle.calendar.specs.declared.moments.Moment.{Moment}
use Rattle.evaluation.specs.Evaluate.{evaluate_in}
use Rattle.answer.specs.Answer.{answer_of}

abbrev late : Moment
late = moment_of 2026 1 30 23 0 0 0

abbrev early : Moment
early = moment_of 2026 1 31 1 0 0 0

abbrev phrase : List ℕ
phrase = bytes_of "a month from now"

-- the earlier now has the later answer
pub crossing :
    (reading : Reading) →
    (instant_of late < instant_of early)
    × (answer_of reading (words_in reading) phrase late ≡ given (with_date 2026 2 28 late))
    × (answer_of reading (words_in reading) phrase early ≡ given (with_date 2026 2 28 early))
    × (instant_of (with_date 2026 2 28 early) < instant_of (with_date 2026 2 28 late))
unfolding keywords words_in class_of word_at token_at lexed turns again get is_at within word_of literal_of ones_of teens_of tens_of tens_ones_of
    num_double_of sum_of hundreds_of num_tail_of num_triple_of num_triple_unit_of units_of num_step num_of is_article unit_of named_month_of weekday_of
    relative_specifier_of specific_of article_of concrete_of duration_turn duration_of named_day_of day_month_year_of month_day_of is_delim
    three_numbers_of two_numbers_of behind_second_of delimited_of date_of minute_of half_of clock_of time_of in_tail_of duration_tail_of tail_of
    with_duration_of relative_expr_of weekday_expr_of undated_of date_expr_of time_behind_of duration_turn_of timed_turn_of undated_turn_of turn_of
    date_time_step date_time_of read_of leap_year month_length days_before_month days_of_years day_number is_date is_time is_moment months_step evaluate_in
    answer_of
crossing First = (lit< tt, refl, refl, lit< tt)
crossing Second = (lit< tt, refl, refl, lit< tt)
