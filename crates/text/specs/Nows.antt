-- The first line of the input as a now. Assumes nothing.
use Rattle.std.specs.Prelude.{ℕ, cond, List}
use Prim.Native.Char.{code}
use Rattle.digits.specs.Forms.{of_form}
use Rattle.calendar.specs.Fixed.{moment_form, moment_in}
use Rattle.calendar.specs.declared.moments.Moment.{Moment}
use Rattle.text.specs.Answers.{moment_of}

-- the form of a now: a space between date and time
abbrev pub now_form : List ℕ
now_form = moment_form (code " ")

-- "A first line in another form is an invalid now": all seven numbers 0
abbrev pub no_now : Moment
no_now = moment_of 0 0 0 0 0 0 0

-- "a first line with now"; "The program `fuzzy` takes no milliseconds"
unfoldable pub now_of : List ℕ → Moment
now_of s = cond (of_form now_form s) (moment_in 0 s) no_now
