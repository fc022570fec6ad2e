-- A moment as a phrase: "march 4 2026 at 9:05". Assumes nothing.
use Rattle.std.specs.Prelude.{ℕ, ◌≡◌, Bool, ◌&&◌, cond, List, [], ◌∷◌, ◌++◌, eqb, get_or}
use Prim.Native.Char.{code}
use Rattle.refusals.specs.declared.Reason.TheVariants.{InvalidMoment, NotWhole}
use Rattle.refusals.specs.Answers.{Answer, refuse}
use Rattle.refusals.specs.Writings.{fitted}
use Rattle.digits.specs.Bytes.{bytes_of}
use Rattle.digits.specs.Digits.{marked, decimal_of}
use Rattle.calendar.specs.Moments.{is_moment}
use Rattle.calendar.specs.declared.moments.Moment.{Moment}
use Rattle.lexer.specs.declared.reading.Reading.{Reading}
use Rattle.lexer.specs.declared.reading.Reading.TheVariants.{First, Second}

-- "month name in full": the twelve names, January first
unfoldable pub month_names : List (List ℕ)
month_names =
    bytes_of "january"
    ∷ bytes_of "february"
    ∷ bytes_of "march"
    ∷ bytes_of "april"
    ∷ bytes_of "may"
    ∷ bytes_of "june"
    ∷ bytes_of "july"
    ∷ bytes_of "august"
    ∷ bytes_of "september"
    ∷ bytes_of "october"
    ∷ bytes_of "november"
    ∷ bytes_of "december"
    ∷ []

-- the name of month m, counted from 1; no other number has one
unfoldable pub month_name : ℕ → List ℕ
month_name m = get_or ([] ∷ month_names) m []

-- "hour without [leading zeros], minute with two digits"
abbrev pub clock_text : Moment → List ℕ
clock_text t = decimal_of t.hour ++ marked (code ":") t.minute

-- texts with a blank between each two
abbrev pub spaced : List (List ℕ) → List ℕ
spaced [] = []
spaced (w ∷ []) = w
spaced (w ∷ v ∷ ws) = w ++ (code " " ∷ spaced (v ∷ ws))

-- "day and year without leading zeros", and the time of day: what stands behind the month's name
abbrev pub rest_text : Moment → List ℕ
rest_text t = code " " ∷ spaced (decimal_of t.day ∷ decimal_of t.year ∷ bytes_of "at" ∷ clock_text t ∷ [])

-- "Write it as "march 4 2026 at 9:05""
unfoldable pub phrase_text : Moment → List ℕ
phrase_text t = month_name t.month ++ rest_text t

-- second and millisecond 0
pub record IsWhole (t : Moment) : Type 0 where
  pub second : t.second ≡ 0
  pub millisecond : t.millisecond ≡ 0

-- `IsWhole` as a test
abbrev pub is_whole : Moment → Bool
is_whole t = eqb t.second 0 && eqb t.millisecond 0

-- "8 for no moment, 16 when second or millisecond isn't 0, then 17 when the buffer is too short for exactly that text"
unfoldable pub shown_of : Moment → ℕ → Answer (List ℕ)
shown_of t room = cond (is_moment t) (cond (is_whole t) (fitted (phrase_text t) room) (refuse NotWhole 0 0)) (refuse InvalidMoment 0 0)

-- the first year of which a reading gives the moment back: the second takes a year of four digits only
abbrev pub least_year : Reading → ℕ
least_year First = 1
least_year Second = 1000
