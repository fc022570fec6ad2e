-- A stamp: a civil moment as written, with its offset; how a text is read as one, and one is written. Assumes nothing.
use Rattle.std.specs.Prelude.{ℕ, ◌+◌, ◌-◌, ◌*◌, ◌/◌, ◌%◌, ◌≤◌, ◌<◌, Bool, true, ◌&&◌, cond, List, [], ◌∷◌, ◌++◌, map, eqb, leb, ltb, length, get_or, take, drop, Result, Ok, Err}
use Prim.Native.Char.{code}
use Rattle.refusals.specs.declared.Reason.TheVariants.{InvalidMoment, Outside, NoStamp}
use Rattle.refusals.specs.declared.Reason.{Reason}
use Rattle.refusals.specs.Answers.{Answer, given, refuse}
use Rattle.refusals.specs.Writings.{fitted}
use Rattle.digits.specs.Bytes.{bytes_of, capital_of, same}
use Rattle.digits.specs.Digits.{digits_of, marked, two_at}
use Rattle.calendar.specs.Moments.{is_day_of_month, is_time, is_moment}
use Rattle.calendar.specs.Fixed.{moment_text, moment_in}
use Rattle.calendar.specs.declared.moments.Moment.{Moment}
use Rattle.stamp.specs.Grammar.{date_time, is_of}
use Rattle.stamp.specs.declared.Offset.{Offset}
use Rattle.stamp.specs.declared.Stamp.{Stamp}

-- "Z" and "+00:00": the offset is zero
abbrev pub zulu : Offset
zulu = record { west = 0; minutes = 0 }

-- where `time_offset` begins: a text of the grammar has up to 24 bytes with "Z", the last of them, and from 25 on with a
-- `time_numoffset`, the last six
abbrev pub offset_place : List ℕ → ℕ
offset_place s = length s - cond (ltb (length s) 25) 1 6

-- `time_secfrac`, if there is one: what stands between the second and the offset, which begins at p
abbrev pub fraction_at : ℕ → List ℕ → List ℕ
fraction_at p s = take (p - 19) (drop 19 s)

-- digit i behind the point, 0 where there is none
abbrev pub fraction_digit : List ℕ → ℕ → ℕ
fraction_digit f i = cond (ltb i (length f)) (get_or f i 0 - code "0") 0

-- tenths, hundredths and thousandths as milliseconds: ".5" is 500, ".05" is 50, and no fraction is 0
abbrev pub millisecond_in : List ℕ → ℕ
millisecond_in f = 100 * fraction_digit f 1 + 10 * fraction_digit f 2 + fraction_digit f 3

-- "-" is west
abbrev pub west_of : ℕ → ℕ
west_of b = cond (eqb b (code "-")) 1 0

-- a `time_offset` is "Z", or the six bytes of a `time_numoffset`
abbrev pub has_numoffset : List ℕ → Bool
has_numoffset u = leb 6 (length u)

-- `time_offset`: "Z", or a sign, hours and minutes. "-00:00" is (1, 0), apart from "Z" (section 4.3)
abbrev pub offset_in : List ℕ → Offset
offset_in u = cond (has_numoffset u) (record { west = west_of (get_or u 0 0); minutes = 60 * two_at u 1 + two_at u 4 }) zulu

-- the stamp whose numbers stand in their places, with the offset from p on
abbrev pub stamp_at : ℕ → List ℕ → Stamp
stamp_at p s = record { moment = moment_in (millisecond_in (fraction_at p s)) s; offset = offset_in (drop p s) }

abbrev pub stamp_in : List ℕ → Stamp
stamp_in s = stamp_at (offset_place s) s

-- "time-hour ; 00-23", "time-minute ; 00-59" of the offset; "Z" has none
abbrev pub offset_exists : List ℕ → Bool
offset_exists u = cond (has_numoffset u) (is_time (two_at u 1) (two_at u 4) 0 0) true

-- section 5.7: the month has the day, by the leap rule, and the time of day exists; "A second of 60 isn't taken"
abbrev pub moment_exists : Moment → Bool
moment_exists t = is_day_of_month t.year t.month t.day && is_time t.hour t.minute t.second t.millisecond

-- "then 12 for year 0000"
abbrev pub in_years : Stamp → Answer Stamp
in_years st = cond (eqb st.moment.year 0) (refuse Outside 0 0) (given st)

-- what a text of the grammar says: 14 for "an impossible date, time or offset"
abbrev pub judged : List ℕ → Answer Stamp
judged s =
    cond (moment_exists (stamp_in s).moment && offset_exists (drop (offset_place s) s)) (in_years (stamp_in s)) (refuse NoStamp 0 0)

-- "14 for any other form"
unfoldable pub stamp_of : List ℕ → Answer Stamp
stamp_of s = cond (is_of date_time s) (judged s) (refuse NoStamp 0 0)

-- the code's answer
abbrev pub stamp_answer : Result Stamp Reason → Answer Stamp
stamp_answer (Ok st) = given st
stamp_answer (Err k) = refuse k 0 0

-- offset zero, and not the unknown one
abbrev pub is_zulu : Offset → Bool
is_zulu o = eqb o.west 0 && eqb o.minutes 0

-- "+" for east, "-" for west
abbrev pub sign_of : ℕ → ℕ
sign_of w = cond (eqb w 0) (code "+") (code "-")

-- `"Z" for offset zero`, else a sign, two digits, a colon and two digits
abbrev pub offset_text : Offset → List ℕ
offset_text o = cond (is_zulu o) (bytes_of "Z") (marked (sign_of o.west) (o.minutes / 60) ++ marked (code ":") (o.minutes % 60))

-- "writes three, or none for zero"
abbrev pub fraction_text : ℕ → List ℕ
fraction_text ms = cond (eqb ms 0) [] (code "." ∷ digits_of 3 ms)

-- "The writer uses capitals"
abbrev pub stamp_text : Stamp → List ℕ
stamp_text st = moment_text (code "T") st.moment ++ fraction_text st.moment.millisecond ++ offset_text st.offset

-- "a numeric offset up to 23:59", east or west
pub record IsOffset (o : Offset) : Type 0 where
  pub west : o.west ≤ 1
  pub minutes : o.minutes < 1440

-- `IsOffset` as a test
abbrev pub is_offset : Offset → Bool
is_offset o = leb o.west 1 && ltb o.minutes 1440

-- "8 for no moment, 14 for an offset out of range, 17 for a buffer too short"
unfoldable pub written_of : Stamp → ℕ → Answer (List ℕ)
written_of st room =
    cond (is_moment st.moment) (cond (is_offset st.offset) (fitted (stamp_text st) room) (refuse NoStamp 0 0))
    (refuse InvalidMoment 0 0)

-- an offset's text as the writer has it: "Z" for "+00:00", and capitals
abbrev pub plain_offset : List ℕ → List ℕ
plain_offset u = cond (same u (bytes_of "+00:00")) (bytes_of "Z") (map capital_of u)

-- a fraction filled up to three digits
abbrev pub filled_up : List ℕ → List ℕ
filled_up f = f ++ drop (length f) (bytes_of ".000")

-- a fraction's text as the writer has it: three digits, or none for zero
abbrev pub plain_fraction : List ℕ → List ℕ
plain_fraction f = cond (same (filled_up f) (bytes_of ".000")) [] (filled_up f)

-- a stamp's text as the writer has it
abbrev pub plain : List ℕ → List ℕ
plain s = let p = offset_place s in map capital_of (take 19 s) ++ plain_fraction (fraction_at p s) ++ plain_offset (drop p s)
