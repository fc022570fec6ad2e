-- A moment that is shown as a phrase is read back, in either reading and at every now. Assumes nothing.
use mathlib.Core.Path.{◌≡◌, refl, sym, ap₂}
use mathlib.Core.Bool.{true}
use mathlib.Core.List.{List, [], ◌∷◌, ◌++◌}
use Prim.Native.Char.{code}
use Prim.Native.Nat.{ℕ, suc, ◌+◌, ◌-◌, ◌≤◌, ◌<◌}
use native.Mathlib.Omega.{arith}
use lib.ListN.{length, length-append}
use borrow.Author.Tests.{le-leb, eq-eqb}
use Rattle.refusals.specs.Answers.{given}
use Rattle.digits.specs.Bytes.{bytes_of}
use Rattle.digits.specs.Digits.{digits_of, width_of, decimal_of}
use Rattle.digits.proofs.Says.{wide_enough}
use Rattle.digits.proofs.Widths.{digits_length, width_limit, width_some, width_fits, width_exceeds}
use Rattle.calendar.specs.Gregorian.{leap_year}
use Rattle.calendar.specs.Moments.{IsMoment, moment, is_date, with_date, with_time}
use Rattle.calendar.specs.declared.moments.Moment.{Moment}
use Rattle.calendar.proofs.Months.{month}
use Rattle.calendar.proofs.Valid.{day_passes, time_passes, moment_passes}
use Rattle.lexer.specs.Lexemes.{January, At, Colon}
use Rattle.lexer.specs.Keywords.{words_in}
use Rattle.lexer.specs.Classes.{class_of, mark_of}
use Rattle.lexer.specs.Lex.{run, Item, item, lexed}
use Rattle.lexer.specs.declared.reading.Reading.{Reading}
use Rattle.lexer.specs.declared.reading.Reading.TheVariants.{First, Second}
use Rattle.lexer.proofs.Pieces.{Lexes, end_lexes, gap_lexes, mark_lexes, word_lexes, digits_lexes, lexed_whole}
use Rattle.dates.specs.Dates.{is_year_in}
use Rattle.dates.specs.declared.date.Date.TheVariants.{MonthDayYear}
use Rattle.dates.specs.declared.time.Time.TheVariants.{HourMin}
use Rattle.expressions.specs.Tree.{date}
use Rattle.phrase.specs.Tree.{DateTime, date_time}
use Rattle.phrase.specs.Read.{reads, read_of}
use Rattle.evaluation.specs.Evaluate.{evaluate_in, evaluate}
use Rattle.answer.specs.Answer.{answer_of}
use Rattle.shown.specs.Phrases.{month_name, clock_text, phrase_text, IsWhole, least_year}
use Rattle.shown.proofs.Names.{Named, month_named, at_named}
use Rattle.shown.proofs.Readings.{Numeral, IsNumeral, literal, moment_read}

-- a number without leading zeros
abbrev plainly : ℕ → Numeral
plainly n = record { value = n; digits = width_of n }

-- a number with two digits
abbrev twofold : ℕ → Numeral
twofold n = record { value = n; digits = 2 }

is_plain : (n : ℕ) → n < 10000 → IsNumeral (plainly n)
unfolding width_of
is_plain n h = record { some = width_some 19 n; most = omega arith }

-- the lexemes of hour, colon and minute that begin at a place
abbrev clock_items : Moment → ℕ → List Item
clock_items t a =
    let colon = a + width_of t.hour in
    item (literal (plainly t.hour)) a ∷ item Colon colon ∷ item (literal (twofold t.minute)) (colon + 1) ∷ []

-- the seven lexemes of a phrase that begins at a place: month, day, year, "at", hour, colon, minute
abbrev items_from : Moment → ℕ → List Item
items_from t a =
    let day = a + length (month_name t.month) + 1 in
    let year = day + width_of t.day + 1 in
    let link = year + width_of t.year + 1 in
    item (January + (t.month - 1)) a
    ∷ item (literal (plainly t.day)) day
    ∷ item (literal (plainly t.year)) year
    ∷ item At link
    ∷ clock_items t (link + 2 + 1)

-- the tree of its date and its time of day
abbrev tree_of : Moment → DateTime
tree_of t = date_time (date (MonthDayYear t.month t.day t.year)) (HourMin t.hour t.minute)

module _ (reading : Reading) where
  -- a number in front of a rest that does not begin with a digit, as "0" is one
  number : (room : ℕ) {r : List ℕ} {items : ℕ → List Item} (n : ℕ) → n < 10000 → run (class_of (code "0")) r ≡ 0 → Lexes (words_in reading) room r items
      → Lexes (words_in reading) (suc room) (decimal_of n ++ r) (λ a. item (literal (plainly n)) a ∷ items (a + width_of n))
  unfolding width_of class_of
  number room n h z rest =
      digits_lexes (words_in reading) room (width_of n) n (width_some 19 n) (omega (arith, width_limit n)) (wide_enough 19 n (omega arith)) (omega arith) z rest

  -- a known word in front of a rest that does not begin with a letter, as "a" is one
  named : (room : ℕ) {r : List ℕ} {items : ℕ → List Item} (w : List ℕ) (k : ℕ) → Named reading w k → run (class_of (code "a")) r ≡ 0
      → Lexes (words_in reading) room r items → Lexes (words_in reading) (suc room) (w ++ r) (λ a. item k a ∷ items (a + length w))
  unfolding class_of
  named room w k h z rest = word_lexes (words_in reading) room w k h.least h.letters z h.known rest

  blank : (room : ℕ) {r : List ℕ} {items : ℕ → List Item} → Lexes (words_in reading) room r items
      → Lexes (words_in reading) room (code " " ∷ r) (λ a. items (a + 1))
  unfolding class_of
  blank room rest = gap_lexes (words_in reading) room (code " ") refl rest

module _ (t : Moment) (v : IsMoment t) where
  days : t.day ≤ 31
  days =
      let d = v.date in
      let most = (month (leap_year t.year) t.month d.month_low d.month_high).most in
      omega arith

  -- "Shortest "may 1 1 at 0:00", longest "september 30 2026 at 23:59"": 26 bytes of room are enough
  pub phrase_short : length (phrase_text t) ≤ 26
  unfolding phrase_text width_of
  phrase_short =
      let d = v.date in
      let c = v.time in
      let name = (month_named First t.month d.month_low d.month_high).most in
      let day = width_fits 19 1 t.day (omega (arith, days)) in
      let year = width_fits 19 3 t.year (omega arith) in
      let hour = width_fits 19 1 t.hour (omega arith) in
      simp (length-append, digits_length) (omega arith)

  module _ (reading : Reading) where
    minute_lexes : Lexes (words_in reading) 58 (digits_of 2 t.minute) (λ a. item (literal (twofold t.minute)) a ∷ [])
    minute_lexes =
        let m = v.time.minute in
        digits_lexes (words_in reading) 57 2 t.minute (omega arith) (omega arith) (omega arith) (omega arith) refl (end_lexes (words_in reading) 57)

    clock_lexes : Lexes (words_in reading) 60 (clock_text t) (clock_items t)
    unfolding class_of mark_of
    clock_lexes =
        let h = v.time.hour in
        number reading 59 t.hour (omega arith) refl (mark_lexes (words_in reading) 58 (code ":") Colon refl refl minute_lexes)

    phrase_lexes : Lexes (words_in reading) 64 (phrase_text t) (items_from t)
    unfolding phrase_text class_of
    phrase_lexes =
        let d = v.date in
        named reading 63 (month_name t.month) (January + (t.month - 1)) (month_named reading t.month d.month_low d.month_high) refl
        (blank reading 63 (number reading 62 t.day (omega (arith, days)) refl
        (blank reading 62 (number reading 61 t.year (omega arith) refl
        (blank reading 61 (named reading 60 (bytes_of "at") At (at_named reading) refl
        (blank reading 60 clock_lexes)))))))

    -- the phrase of a moment is lexed whole, as seven lexemes
    phrase_lexed : lexed (words_in reading) (phrase_text t) ≡ given (items_from t 0)
    phrase_lexed = lexed_whole (words_in reading) (phrase_text t) (items_from t) (omega (arith, phrase_short)) phrase_lexes

    -- its year has one digit at least, and in the second reading four
    year_taken : (chosen : Reading) → least_year chosen ≤ t.year → is_year_in chosen (record { value = t.year; digits = width_of t.year; taken = 1 }) ≡ true
    unfolding width_of
    year_taken First h = refl
    year_taken Second h =
        let y = t.year in
        let fits = width_fits 19 3 y (omega (arith, v.date)) in
        eq-eqb (width_of y) 4 (omega (arith, width_exceeds 19 3 y (omega arith) h))

    -- and read as its date and its time of day, all lexemes taken
    phrase_read : least_year reading ≤ t.year → read_of reading (words_in reading) (phrase_text t) ≡ reads (tree_of t) 7
    unfolding read_of
    phrase_read h =
        let d = v.date in
        let c = v.time in
        rw (
          phrase_lexed,
          moment_read reading t.month (plainly t.day) (plainly t.year) (plainly t.hour) (twofold t.minute) d.month_low d.month_high
              (is_plain t.day (omega (arith, days))) (is_plain t.year (omega arith)) (is_plain t.hour (omega arith))
              (record { some = omega arith; most = omega arith }) (year_taken reading h),
        )

  -- which evaluates at any now to the moment with second and millisecond 0
  tree_evaluates : (n : Moment) → evaluate (tree_of t) n ≡ moment (with_time t.hour t.minute 0 0 (with_date t.year t.month t.day n))
  unfolding evaluate_in is_date
  tree_evaluates n =
      let d = v.date in
      let c = v.time in
      rw (
        le-leb 1 t.year d.year_low,
        le-leb t.year 9999 d.year_high,
        day_passes d,
        time_passes {h = t.hour} {m = t.minute} {s = 0} {ms = 0}
            (record { hour = c.hour; minute = c.minute; second = omega arith; millisecond = omega arith }),
      )

-- "For years 1000 to 9999 either reading gives that moment back at every valid now; for years 1 to 999 only reading 1 is promised"
pub read_back : (reading : Reading) (t n : Moment) → IsMoment t → IsWhole t → least_year reading ≤ t.year → IsMoment n
    → answer_of reading (words_in reading) (phrase_text t) n ≡ given t
unfolding answer_of
read_back reading t n v whole h w =
    rw (phrase_read t v reading h, moment_passes w, tree_evaluates t v n)
    (ap₂ (λ s ms. given (with_time t.hour t.minute s ms t)) (sym whole.second) (sym whole.millisecond))
