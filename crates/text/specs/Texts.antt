-- An answer as text: `2026-02-20 09:30:15`, or `refused 7 at 1`. Assumes nothing.
use Rattle.std.specs.Prelude.{ℕ, cond, List, [], ◌++◌, leb, length}
use Prim.Native.Char.{code}
use Rattle.digits.specs.Bytes.{bytes_of}
use Rattle.digits.specs.Digits.{decimal_of}
use Rattle.calendar.specs.Fixed.{moment_text}
use Rattle.calendar.specs.declared.moments.Moment.{Moment}
use Rattle.text.specs.Answers.{Answer, given, refused, number_of}

-- a refusal's number and place
abbrev pub refusal_text : ℕ → ℕ → List ℕ
refusal_text k a = bytes_of "refused " ++ decimal_of k ++ bytes_of " at " ++ decimal_of a

-- an answer; the end of a refusal's part is not written
unfoldable pub text_of : Answer Moment → List ℕ
text_of (given t) = moment_text (code " ") t
text_of (refused r) = refusal_text (number_of r.reason) r.place

-- a text where there is room for it, else nothing
abbrev pub fitting : ℕ → List ℕ → List ℕ
fitting room s = cond (leb (length s) room) s []
