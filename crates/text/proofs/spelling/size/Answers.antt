-- `text::spelling::size` meets its contract. Assumes nothing.
use native.Mathlib.Omega.{arith}
use Rattle.text.specs.Texts.{text_of}
use Rattle.text.proofs.Spelled.{refusal_length}
use Rattle.text.proofs.spelling.size.Goals as goal

pub returns-in-Ok : goal.returns-in-Ok
unfolding text_of
returns-in-Ok c = rw c.in-Ok.is

pub returns-in-Err : goal.returns-in-Err
unfolding text_of
returns-in-Err c =
    rw (c.in-Err.is, ← c.number.ensures.value) (omega (arith, refusal_length c.number.result c.in-Err.r.place, c.width.ensures.0, c.width-in-Err.ensures.0))
