-- The lexemes of a moment that is shown are read as its date and its time, in either reading. Assumes nothing.
use mathlib.Core.Path.{◌≡◌, refl}
use mathlib.Core.Bool.{true, false, and-false}
use mathlib.Core.List.{List, [], ◌∷◌}
use Prim.Native.Nat.{ℕ, ◌+◌, ◌-◌, ◌≤◌, ◌<◌}
use native.Mathlib.Omega.{arith}
use lib.Dec.{leb}
use Rattle.std.proofs.Common.{None, Ok}
use borrow.Author.Tests.{le-leb, lt-leb, ne_eqb}
use Rattle.lexer.specs.Lexemes as lexeme
use Rattle.lexer.specs.declared.reading.Reading.{Reading}
use Rattle.lexer.specs.declared.reading.Reading.TheVariants.{First, Second}
use Rattle.numbers.specs.Slices.{get, is_at, within}
use Rattle.numbers.specs.Answers.{MAX, written}
use Rattle.numbers.specs.Numbers.{begins_number, num_of}
use Rattle.numbers.proofs.Alone.{literal_num}
use Rattle.numbers.proofs.Begins.{not_at, no_num}
use Rattle.numbers.proofs.Plain.{not_within}
use Rattle.dates.specs.Parsed.{is, nothing}
use Rattle.dates.specs.Rows.{Written}
use Rattle.dates.specs.Units.{is_article, month_of, relative_specifier_of}
use Rattle.dates.specs.Durations.{specific_of, article_of, concrete_of, duration_turn, duration_of}
use Rattle.dates.specs.Dates.{is_year_in, comma_in, named_day_of, day_month_year_of, month_day_of, date_of}
use Rattle.dates.specs.Times.{minute_of, half_of, clock_of, time_of}
use Rattle.dates.specs.declared.date.Date.TheVariants.{MonthDayYear}
use Rattle.dates.specs.declared.time.Time.TheVariants.{HourMin}
use Rattle.dates.proofs.Durations.{duration_is}
use Rattle.expressions.specs.Tree.{date}
use Rattle.expressions.specs.DateExprs.{in_tail_of, duration_tail_of, tail_of, date_expr_of}
use Rattle.phrase.specs.Tree.{date_time}
use Rattle.phrase.specs.DateTimes.{time_behind_of, turn_of, date_time_step, date_time_of}
use Rattle.phrase.proofs.Outlining.{date_time_is}

-- a number as it was written
pub record Numeral : Type 0 where
  pub value : ℕ
  pub digits : ℕ

-- of at least one digit, and no more than a literal holds
pub record IsNumeral (n : Numeral) : Type 0 where
  pub some : 0 < n.digits
  pub most : n.value ≤ MAX

-- its lexeme
abbrev pub literal : Numeral → ℕ
literal n = Written n.digits n.value

-- the lexemes of hour, colon, minute
abbrev pub clock_codes : Numeral → Numeral → List ℕ
clock_codes h mi = literal h ∷ lexeme.Colon ∷ literal mi ∷ []

-- the lexemes of month, day, year, and "at" in front of r
abbrev pub date_codes : ℕ → Numeral → Numeral → List ℕ → List ℕ
date_codes m d y r = (lexeme.January + (m - 1)) ∷ literal d ∷ literal y ∷ lexeme.At ∷ r

module _ (reading : Reading) where
  -- a numeral in front of what joins no number
  read_numeral : (n : Numeral) (r : List ℕ) → IsNumeral n → within lexeme.Hundred (get r 0) lexeme.TH ≡ false
      → num_of reading (literal n ∷ r) ≡ written n.value n.digits 1
  read_numeral n r v none = literal_num reading n.digits n.value r v.some v.most none

  -- the time
  module _ (h mi : Numeral) (hour : IsNumeral h) (minute : IsNumeral mi) where
    -- hour and minute are a time of day, of three lexemes
    time_read : time_of reading (clock_codes h mi) ≡ is (HourMin h.value mi.value) 3
    unfolding time_of clock_of minute_of half_of is_at get within
    time_read = rw (
      ne_eqb (literal h) lexeme.Midnight (λ e. omega (arith, hour.some)),
      ne_eqb (literal h) lexeme.Noon (λ e. omega (arith, hour.some)),
      read_numeral h (lexeme.Colon ∷ literal mi ∷ []) hour refl,
      read_numeral mi [] minute refl,
    )

  -- no tail of a date begins with "at"
  no_number : (r : List ℕ) → num_of reading (lexeme.At ∷ r) ≡ Ok None
  unfolding begins_number within get
  no_number r = no_num reading (lexeme.At ∷ r) refl

  no_duration : (r : List ℕ) → duration_of reading (lexeme.At ∷ r) ≡ nothing
  unfolding duration_turn concrete_of specific_of article_of is_article get
  no_duration r = rw (duration_is reading (lexeme.At ∷ r), no_number r)

  no_tail : (r : List ℕ) → tail_of reading (lexeme.At ∷ r) ≡ nothing
  unfolding tail_of duration_tail_of in_tail_of relative_specifier_of get
  no_tail r = rw (no_duration r, not_at (lexeme.At ∷ r) 0 lexeme.In (λ e. omega arith))

  -- the date, with a year that the reading takes for one
  module _ (m : ℕ) (d y : Numeral) (r : List ℕ) (month_low : 1 ≤ m) (month_high : m ≤ 12) (day : IsNumeral d) (year : IsNumeral y)
      (taken : is_year_in reading (record { value = y.value; digits = y.digits; taken = 1 }) ≡ true) where
    abbrev month : ℕ
    month = lexeme.January + (m - 1)

    abbrev codes : List ℕ
    codes = date_codes m d y r

    day_read : num_of reading (literal d ∷ literal y ∷ lexeme.At ∷ r) ≡ written d.value d.digits 1
    unfolding get
    day_read =
        read_numeral d (literal y ∷ lexeme.At ∷ r) day (not_within lexeme.Hundred (literal y) lexeme.TH refl (omega (arith, year.some)))

    year_read : num_of reading (literal y ∷ lexeme.At ∷ r) ≡ written y.value y.digits 1
    unfolding get within
    year_read = read_numeral y (lexeme.At ∷ r) year refl

    no_named_day : named_day_of codes ≡ nothing
    unfolding named_day_of get
    no_named_day = rw (
      not_at codes 0 lexeme.Today (λ e. omega arith),
      not_at codes 0 lexeme.Tomorrow (λ e. omega arith),
      not_at codes 0 lexeme.Yesterday (λ e. omega arith),
    )

    no_day_first : num_of reading codes ≡ Ok None
    unfolding begins_number within get
    no_day_first = no_num reading codes
        (rw (
          lt-leb month lexeme.Ninety (omega arith),
          and-false (leb lexeme.One month),
          lt-leb lexeme.Hundred month (omega arith),
          lt-leb lexeme.NUM month (omega arith),
        ))

    month_read : month_of codes ≡ is m 1
    unfolding month_of within get
    month_read =
        let back : month - lexeme.January + 1 ≡ m = omega arith in
        rw (le-leb lexeme.January month (omega arith), le-leb month lexeme.December (omega arith), back)

    -- no comma stands before the year
    no_comma : (chosen : Reading) → comma_in chosen codes 2 ≡ 0
    unfolding get
    no_comma First = refl
    no_comma Second = rw (not_at codes 2 lexeme.Comma (λ e. omega (arith, year.some)))

    -- they are a date, of three lexemes
    date_read : date_of reading codes ≡ is (MonthDayYear m d.value y.value) 3
    unfolding date_of day_month_year_of month_day_of
    date_read = rw (no_named_day, no_day_first, month_read, day_read, no_comma reading, year_read, taken)

    expr_read : date_expr_of reading codes ≡ is (date (MonthDayYear m d.value y.value)) 3
    unfolding date_expr_of
    expr_read = rw (date_read, no_tail r)

  -- a whole moment, all seven lexemes taken
  pub moment_read :
      (m : ℕ) (d y h mi : Numeral) → 1 ≤ m → m ≤ 12 → IsNumeral d → IsNumeral y → IsNumeral h → IsNumeral mi →
      is_year_in reading (record { value = y.value; digits = y.digits; taken = 1 }) ≡ true →
      date_time_of reading (date_codes m d y (clock_codes h mi))
      ≡ is (date_time (date (MonthDayYear m d.value y.value)) (HourMin h.value mi.value)) 7
  unfolding date_time_step turn_of time_behind_of is_at
  moment_read m d y h mi low high day year hour minute taken =
      rw (
        date_time_is reading (date_codes m d y (clock_codes h mi)),
        ne_eqb (lexeme.January + (m - 1)) lexeme.Now (λ e. omega arith),
        expr_read m d y (clock_codes h mi) low high day year taken,
        time_read h mi hour minute,
      )
