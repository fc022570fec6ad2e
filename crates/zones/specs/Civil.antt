-- Instants and civil seconds of a zone, and civil seconds and moments.
use Rattle.std.specs.Prelude.{ℕ, ◌+◌, ◌-◌, Bool, cond, ◌&&◌, List, [], ◌∷◌, leb, ltb, Result, Ok, Err}
use Rattle.refusals.specs.declared.Reason.{Reason}
use Rattle.refusals.specs.declared.Reason.TheVariants.{PastLast, NoInstant}
use Rattle.calendar.specs.Moments.{Reach, moment, refused}
use Rattle.calendar.specs.Moments.{second_number, seconds, moment_at}
use Rattle.calendar.specs.declared.moments.Moment.{Moment}
use Rattle.tzif.specs.Zones.{Row, Zone, year_one}

-- the offset of the last transition at or before s
abbrev pub shift_at : ℕ → List Row → ℕ → ℕ
shift_at o [] s = o
shift_at o (r ∷ rs) s = cond (leb r.at s) (shift_at r.shift rs s) o

-- the last transition
abbrev pub last_of : ℕ → List Row → ℕ
last_of from [] = from
last_of from (r ∷ rs) = last_of r.at rs

-- the pieces in order: the first that has c. 22: "a moment at or past the last transition". 23: "a time that doesn't occur".
abbrev pub resolve_from : ℕ → ℕ → List Row → ℕ → Reach ℕ
resolve_from from o [] c = cond (leb (from + o) c) (refused PastLast) (refused NoInstant)
resolve_from from o (r ∷ rs) c =
    cond (leb (from + o) c && ltb c (r.at + o)) (moment (c - o)) (resolve_from r.at r.shift rs c)

module _ (z : Zone) where
  -- the civil second of an instant
  abbrev pub civil_of : ℕ → ℕ
  civil_of s = s + shift_at z.first z.rows s

  -- the first instant that is refused: "moments at or past the last transition (all, if there is none) are refused"
  abbrev pub last_in : ℕ
  last_in = last_of 0 z.rows

  -- the instant of a civil second: "A civil time that occurs twice is the earlier"
  abbrev pub resolve : ℕ → Reach ℕ
  resolve c = resolve_from 0 z.first z.rows c

-- the code's answer, a second or an instant
abbrev pub answer_of : {A : Type 0} → Result A Reason → Reach A
answer_of (Ok x) = moment x
answer_of (Err k) = refused k

-- the first civil second of year 1
abbrev pub civil_one : ℕ
civil_one = year_one + 90000

-- a civil second in years 1 to 9999
abbrev pub in_years : ℕ → Bool
in_years c = leb civil_one c && ltb c (civil_one + seconds)

-- the moment of a civil second, with a millisecond
abbrev pub moment_of_second : ℕ → ℕ → Moment
moment_of_second c ms = moment_at (c - civil_one) ms

-- the civil second of a moment
abbrev pub second_of_moment : Moment → ℕ
second_of_moment t = civil_one + second_number t
