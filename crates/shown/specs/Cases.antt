-- Worked phrases: what is written of each moment in so many bytes of room.
use Rattle.std.specs.Prelude.{ℕ, ◌≡◌, refl, List, [], ◌∷◌, map}
use Rattle.refusals.specs.declared.Reason.TheVariants.{InvalidMoment, NotWhole, NoRoom}
use Rattle.refusals.specs.Answers.{Answer, given, refuse}
use Rattle.digits.specs.Bytes.{bytes_of}
use Rattle.digits.specs.Digits.{width_of}
use Rattle.calendar.specs.Gregorian.{leap_year, month_length}
use Rattle.calendar.specs.Moments.{is_date, is_time, is_moment, moment_of}
use Rattle.calendar.specs.declared.moments.Moment.{Moment}
use Rattle.shown.specs.Phrases.{month_names, month_name, phrase_text, shown_of}

-- a moment, the bytes of room, and what is written
pub record Writing : Type 0 where
  pub moment : Moment
  pub room : ℕ
  pub written : Answer (List ℕ)

abbrev writes : Moment → ℕ → Answer (List ℕ) → Writing
writes t n a = record { moment = t; room = n; written = a }

unfoldable pub writings : List Writing
writings =
    -- the customer's moment: exactly enough room, and a byte too few
    writes (moment_of 2026 3 4 9 5 0 0) 20 (given (bytes_of "march 4 2026 at 9:05"))
    ∷ writes (moment_of 2026 3 4 9 5 0 0) 19 (refuse NoRoom 0 0)
    -- the shortest and the longest
    ∷ writes (moment_of 1 5 1 0 0 0 0) 15 (given (bytes_of "may 1 1 at 0:00"))
    ∷ writes (moment_of 1 5 1 0 0 0 0) 14 (refuse NoRoom 0 0)
    ∷ writes (moment_of 2026 9 30 23 59 0 0) 26 (given (bytes_of "september 30 2026 at 23:59"))
    ∷ writes (moment_of 2026 9 30 23 59 0 0) 25 (refuse NoRoom 0 0)
    -- day, year and hour of more digits, and all months
    ∷ writes (moment_of 10 1 10 10 10 0 0) 256 (given (bytes_of "january 10 10 at 10:10"))
    ∷ writes (moment_of 2024 2 29 0 1 0 0) 256 (given (bytes_of "february 29 2024 at 0:01"))
    ∷ writes (moment_of 999 4 9 9 9 0 0) 256 (given (bytes_of "april 9 999 at 9:09"))
    ∷ writes (moment_of 1000 6 30 19 30 0 0) 256 (given (bytes_of "june 30 1000 at 19:30"))
    ∷ writes (moment_of 2026 7 31 1 0 0 0) 256 (given (bytes_of "july 31 2026 at 1:00"))
    ∷ writes (moment_of 2026 8 1 20 20 0 0) 256 (given (bytes_of "august 1 2026 at 20:20"))
    ∷ writes (moment_of 2026 10 11 12 13 0 0) 256 (given (bytes_of "october 11 2026 at 12:13"))
    ∷ writes (moment_of 2026 11 30 0 0 0 0) 256 (given (bytes_of "november 30 2026 at 0:00"))
    ∷ writes (moment_of 9999 12 31 23 59 0 0) 256 (given (bytes_of "december 31 9999 at 23:59"))
    -- 16 before 17
    ∷ writes (moment_of 2026 3 4 9 5 1 0) 0 (refuse NotWhole 0 0)
    ∷ writes (moment_of 2026 3 4 9 5 0 1) 0 (refuse NotWhole 0 0)
    ∷ writes (moment_of 2026 3 4 9 5 59 999) 256 (refuse NotWhole 0 0)
    -- 8 before 16
    ∷ writes (moment_of 2026 3 4 9 5 60 0) 256 (refuse InvalidMoment 0 0)
    ∷ writes (moment_of 2026 3 4 9 5 0 1000) 256 (refuse InvalidMoment 0 0)
    ∷ writes (moment_of 2026 2 29 9 5 1 0) 0 (refuse InvalidMoment 0 0)
    ∷ writes (moment_of 0 3 4 9 5 0 0) 256 (refuse InvalidMoment 0 0)
    ∷ writes (moment_of 10000 3 4 9 5 0 0) 256 (refuse InvalidMoment 0 0)
    ∷ writes (moment_of 2026 13 4 9 5 0 0) 256 (refuse InvalidMoment 0 0)
    ∷ []

-- each moment is written as listed
pub writings_as_listed : map (λ c. shown_of c.moment c.room) writings ≡ map (λ c. c.written) writings
unfolding writings shown_of phrase_text month_name month_names width_of leap_year month_length is_date is_time is_moment
writings_as_listed = refl
