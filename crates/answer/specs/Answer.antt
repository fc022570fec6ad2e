-- A phrase at a now: refusals 1 to 7, then 8, then 9 to 13; or the moment.
use Rattle.std.specs.Prelude.{ℕ, ◌≡◌, refl, cond, List, [], ◌∷◌, map}
use Rattle.lexer.specs.Words.{Word}
use Rattle.lexer.specs.declared.reading.Reading.{Reading}
use Rattle.calendar.specs.Gregorian.{leap_year, month_length}
use Rattle.calendar.specs.Moments.{Reach, moment, refused as unreached, is_date, is_time, is_moment, with_date}
use Rattle.calendar.specs.declared.moments.Moment.{Moment}
use Rattle.dates.specs.declared.units.Unit.TheVariants.{Month}
use Rattle.dates.specs.declared.units.RelativeSpecifier.TheVariants.{This}
use Rattle.dates.specs.declared.time.Time.TheVariants.{Empty}
use Rattle.expressions.specs.Tree.{unit_relative}
use Rattle.phrase.specs.Tree.{date_time, now}
use Rattle.phrase.specs.Read.{TreeRead, ReadPhrase, reads, read_of}
use Rattle.refusals.specs.declared.Reason.TheVariants.{LeftOver, InvalidMoment, NoSense}
use Rattle.refusals.specs.Answers.{Answer, given, refuse, and_then}
use Rattle.evaluation.specs.Evaluate.{evaluate_in, evaluate}
use Rattle.evaluation.specs.Cases.{A}

-- 8 to 13 have place 0 and an empty part
abbrev pub placed : {A : Type 0} → Reach A → Answer A
placed (moment t) = given t
placed (unreached k) = refuse k 0 0

-- a reading at a now; 8: "now is no date and time in years 1 to 9999"
abbrev pub reading_at : Moment → TreeRead → Answer Moment
reading_at n x = placed (cond (is_moment n) (evaluate x.tree n) (unreached InvalidMoment))

-- the one definition that everything is measured by
unfoldable pub answer_of : Reading → List Word → List ℕ → Moment → Answer Moment
answer_of reading ws s n = and_then (read_of reading ws s) (reading_at n)

-- a row: what reading gives, now, and the answer
pub record Case : Type 0 where
  pub read : ReadPhrase
  pub from : Moment
  pub answer : Answer Moment

abbrev row : ReadPhrase → Moment → Answer Moment → Case
row r n a = record { read = r; from = n; answer = a }

-- 2026-02-29, which is no date
abbrev no_now : Moment
no_now = with_date 2026 2 29 A

-- worked answers: 8 behind 1 to 7, and before 9 to 13
unfoldable pub cases : List Case
cases =
    row (refuse LeftOver 1 3) A (refuse LeftOver 1 3)
    ∷ row (refuse LeftOver 1 3) no_now (refuse LeftOver 1 3)
    ∷ row (reads now 1) A (given A)
    ∷ row (reads now 1) no_now (refuse InvalidMoment 0 0)
    ∷ row (reads (date_time (unit_relative This Month) Empty) 2) A (refuse NoSense 0 0)
    ∷ row (reads (date_time (unit_relative This Month) Empty) 2) no_now (refuse InvalidMoment 0 0)
    ∷ []

-- each is answered as listed
pub cases_as_listed : map (λ c. and_then c.read (reading_at c.from)) cases ≡ map (λ c. c.answer) cases
unfolding cases leap_year month_length is_date is_time is_moment evaluate_in
cases_as_listed = refl
