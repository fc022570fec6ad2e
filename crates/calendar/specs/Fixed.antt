-- A moment in the fixed form `YYYY-MM-DD?HH:MM:SS`, with any byte as the mark between date and time. Assumes nothing.
use Rattle.std.specs.Prelude.{ℕ, ◌+◌, ◌*◌, List, ◌∷◌, ◌++◌}
use Prim.Native.Char.{code}
use Rattle.digits.specs.Bytes.{bytes_of}
use Rattle.digits.specs.Digits.{digits_of, marked, two_at}
use Rattle.calendar.specs.declared.moments.Moment.{Moment}

-- the form, for `of_form`
abbrev pub moment_form : ℕ → List ℕ
moment_form m = bytes_of "0000-00-00" ++ (m ∷ bytes_of "00:00:00")

-- "Years have four digits"
abbrev pub date_text : Moment → List ℕ
date_text t = digits_of 4 t.year ++ marked (code "-") t.month ++ marked (code "-") t.day

-- a time of day behind its mark
abbrev pub time_text : ℕ → Moment → List ℕ
time_text m t = marked m t.hour ++ marked (code ":") t.minute ++ marked (code ":") t.second

-- a moment in the form
abbrev pub moment_text : ℕ → Moment → List ℕ
moment_text m t = date_text t ++ time_text m t

-- the six numbers at their places in the form, and so many milliseconds, for which the form has no place
abbrev pub moment_in : ℕ → List ℕ → Moment
moment_in ms s =
    record {
      year = 100 * two_at s 0 + two_at s 2;
      month = two_at s 5;
      day = two_at s 8;
      hour = two_at s 11;
      minute = two_at s 14;
      second = two_at s 17;
      millisecond = ms;
    }
