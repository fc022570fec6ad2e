-- Worked texts and stamps: each rule of reading and writing on both sides.
use Rattle.std.specs.Prelude.{ℕ, ◌≡◌, refl, List, [], ◌∷◌, ◌++◌, map}
use Rattle.refusals.specs.declared.Reason.TheVariants.{InvalidMoment, Outside, NoStamp, NoRoom}
use Rattle.refusals.specs.Answers.{Answer, given, refuse}
use Rattle.digits.specs.Bytes.{bytes_of}
use Rattle.calendar.specs.Gregorian.{leap_year, month_length}
use Rattle.calendar.specs.Moments.{is_date, is_time, is_moment, moment_of}
use Rattle.calendar.specs.declared.moments.Moment.{Moment}
use Rattle.stamp.specs.Grammar.{is_of}
use Rattle.stamp.specs.Stamps.{stamp_of, written_of}
use Rattle.stamp.specs.declared.Stamp.{Stamp}

-- day d of February of year y, in the last minute
abbrev february : ℕ → ℕ → ℕ → Moment
february y d s = moment_of y 2 d 23 59 s 0

-- so many milliseconds past the last second of 29 February 2024, with an offset
abbrev behind : ℕ → ℕ → ℕ → Stamp
behind ms west minutes = record { moment = moment_of 2024 2 29 23 59 59 ms; offset = record { west = west; minutes = minutes } }

-- and none past it
abbrev leap : ℕ → ℕ → Stamp
leap = behind 0

-- a text and its reading
pub record Text : Type 0 where
  pub text : List ℕ
  pub reading : Answer Stamp

abbrev reads : List ℕ → Answer Stamp → Text
reads s a = record { text = s; reading = a }

unfoldable pub texts : List Text
texts =
    -- letters in either case
    reads (bytes_of "2024-02-29T23:59:59Z") (given (leap 0 0))
    ∷ reads (bytes_of "2024-02-29t23:59:59z") (given (leap 0 0))
    -- offsets: zero, unknown, the largest, and those that do not exist
    ∷ reads (bytes_of "2024-02-29T23:59:59+00:00") (given (leap 0 0))
    ∷ reads (bytes_of "2024-02-29T23:59:59-00:00") (given (leap 1 0))
    ∷ reads (bytes_of "2024-02-29T23:59:59+23:59") (given (leap 0 1439))
    ∷ reads (bytes_of "2024-02-29T23:59:59-23:59") (given (leap 1 1439))
    ∷ reads (bytes_of "2024-02-29T23:59:59+24:00") (refuse NoStamp 0 0)
    ∷ reads (bytes_of "2024-02-29T23:59:59-24:00") (refuse NoStamp 0 0)
    ∷ reads (bytes_of "2024-02-29T23:59:59+23:60") (refuse NoStamp 0 0)
    -- dates and times that do not exist
    ∷ reads (bytes_of "2026-02-29T23:59:59Z") (refuse NoStamp 0 0)
    ∷ reads (bytes_of "2024-00-29T23:59:59Z") (refuse NoStamp 0 0)
    ∷ reads (bytes_of "2024-13-29T23:59:59Z") (refuse NoStamp 0 0)
    ∷ reads (bytes_of "2024-02-00T23:59:59Z") (refuse NoStamp 0 0)
    ∷ reads (bytes_of "2024-02-29T24:00:00Z") (refuse NoStamp 0 0)
    ∷ reads (bytes_of "2024-02-29T23:60:59Z") (refuse NoStamp 0 0)
    ∷ reads (bytes_of "2024-02-29T23:59:60Z") (refuse NoStamp 0 0)
    -- 14 before 12
    ∷ reads (bytes_of "0000-02-29T00:00:00Z") (refuse Outside 0 0)
    ∷ reads (bytes_of "0000-02-30T00:00:00Z") (refuse NoStamp 0 0)
    ∷ reads (bytes_of "0000-02-29T00:00:00+24:00") (refuse NoStamp 0 0)
    -- fractions of one to three digits, with each offset
    ∷ reads (bytes_of "2024-02-29T23:59:59.5Z") (given (behind 500 0 0))
    ∷ reads (bytes_of "2024-02-29T23:59:59.05z") (given (behind 50 0 0))
    ∷ reads (bytes_of "2024-02-29T23:59:59.005+23:59") (given (behind 5 0 1439))
    ∷ reads (bytes_of "2024-02-29T23:59:59.999-00:00") (given (behind 999 1 0))
    ∷ reads (bytes_of "2024-02-29T23:59:59.0-01:00") (given (behind 0 1 60))
    -- other fractions: no digit, four, a comma, a digit missing in front of the offset; and 60 is no second with one
    ∷ reads (bytes_of "2024-02-29T23:59:59.Z") (refuse NoStamp 0 0)
    ∷ reads (bytes_of "2024-02-29T23:59:59.+01:00") (refuse NoStamp 0 0)
    ∷ reads (bytes_of "2024-02-29T23:59:59.0000Z") (refuse NoStamp 0 0)
    ∷ reads (bytes_of "2024-02-29T23:59:59,5Z") (refuse NoStamp 0 0)
    ∷ reads (bytes_of "2024-02-29T23:59:59.123") (refuse NoStamp 0 0)
    ∷ reads (bytes_of "2024-02-29T23:59:60.5Z") (refuse NoStamp 0 0)
    -- other forms: a blank for "T", 19, 21 and 26 bytes, a line feed behind, nothing
    ∷ reads (bytes_of "2024-02-29 23:59:59Z") (refuse NoStamp 0 0)
    ∷ reads (bytes_of "2024-02-29T23:59:59") (refuse NoStamp 0 0)
    ∷ reads (bytes_of "2024-02-29T23:59:59ZZ") (refuse NoStamp 0 0)
    ∷ reads (bytes_of "2024-02-29T23:59:59+00:000") (refuse NoStamp 0 0)
    ∷ reads (bytes_of "2024-02-29T23:59:59Z" ++ (10 ∷ [])) (refuse NoStamp 0 0)
    ∷ reads [] (refuse NoStamp 0 0)
    ∷ []

-- each text is read as listed
pub texts_as_listed : map (λ c. stamp_of c.text) texts ≡ map (λ c. c.reading) texts
unfolding texts stamp_of is_of leap_year month_length is_time
texts_as_listed = refl

-- a stamp, the bytes of room, and what is written
pub record Writing : Type 0 where
  pub stamp : Stamp
  pub room : ℕ
  pub written : Answer (List ℕ)

abbrev writes : Stamp → ℕ → Answer (List ℕ) → Writing
writes st n a = record { stamp = st; room = n; written = a }

unfoldable pub writings : List Writing
writings =
    -- exactly enough room, and a byte too few
    writes (leap 0 0) 20 (given (bytes_of "2024-02-29T23:59:59Z"))
    ∷ writes (leap 0 0) 19 (refuse NoRoom 0 0)
    ∷ writes (leap 0 1439) 25 (given (bytes_of "2024-02-29T23:59:59+23:59"))
    ∷ writes (leap 0 1439) 24 (refuse NoRoom 0 0)
    -- the unknown offset is apart from "Z"
    ∷ writes (leap 1 0) 25 (given (bytes_of "2024-02-29T23:59:59-00:00"))
    ∷ writes (leap 1 61) 25 (given (bytes_of "2024-02-29T23:59:59-01:01"))
    -- three digits of a fraction
    ∷ writes (behind 500 0 0) 24 (given (bytes_of "2024-02-29T23:59:59.500Z"))
    ∷ writes (behind 500 0 0) 23 (refuse NoRoom 0 0)
    ∷ writes (behind 5 1 0) 29 (given (bytes_of "2024-02-29T23:59:59.005-00:00"))
    ∷ writes (behind 5 1 0) 28 (refuse NoRoom 0 0)
    -- 14 before 17
    ∷ writes (leap 2 0) 0 (refuse NoStamp 0 0)
    ∷ writes (leap 0 1440) 0 (refuse NoStamp 0 0)
    -- 8 before 14
    ∷ writes (record { moment = february 2026 29 59; offset = (leap 2 0).offset }) 0 (refuse InvalidMoment 0 0)
    ∷ writes (record { moment = february 2024 29 60; offset = (leap 0 0).offset }) 20 (refuse InvalidMoment 0 0)
    ∷ writes (behind 1000 2 0) 29 (refuse InvalidMoment 0 0)
    ∷ writes (record { moment = february 0 29 59; offset = (leap 0 0).offset }) 20 (refuse InvalidMoment 0 0)
    ∷ []

-- each stamp is written as listed
pub writings_as_listed : map (λ c. written_of c.stamp c.room) writings ≡ map (λ c. c.written) writings
unfolding writings written_of leap_year month_length is_date is_time is_moment
writings_as_listed = refl
