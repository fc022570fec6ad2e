-- What a first line says of now. Assumes nothing.
use Prim.Native.Nat.{ℕ}
use Prim.Native.Char.{code}
use mathlib.Core.Path.{◌≡◌}
use mathlib.Core.Bool.{false}
use mathlib.Core.List.{List, []}
use Rattle.digits.specs.Forms.{of_form}
use Rattle.calendar.specs.Moments.{IsMoment, is_date, is_moment}
use Rattle.calendar.specs.declared.moments.Moment.{Moment}
use Rattle.calendar.proofs.ReadBack.{moment_fits, moment_back}
use Rattle.text.specs.Answers.{given}
use Rattle.text.specs.Nows.{now_form, now_of}
use Rattle.text.specs.Texts.{text_of}

-- "A first line in another form is an invalid now", so that refusal 8 follows
pub other_form : (s : List ℕ) → of_form now_form s ≡ false → is_moment (now_of s) ≡ false
unfolding now_of is_moment is_date
other_form s h = rw h

-- the text of a moment is a now's line, and says that moment where it has no milliseconds
pub moment_says : (t : Moment) → IsMoment t → t.millisecond ≡ 0 → now_of (text_of (given t)) ≡ t
unfolding now_of text_of
moment_says t m none = rw (moment_fits (code " ") t, ← none) (moment_back (code " ") t [] m)
