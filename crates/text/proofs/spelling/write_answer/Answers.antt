-- `text::spelling::write_answer` meets its contract. Assumes nothing.
use mathlib.Core.Path.{◌≡◌, refl}
use mathlib.Core.List.{List}
use Prim.Native.Nat.{ℕ, ◌+◌, ◌≤◌}
use native.Mathlib.Omega.{arith}
use lib.ListN.{length}
use lib.Seq.{sets}
use Rattle.std.proofs.Common.{Result, Ok, Err}
use Rattle.digits.specs.Digits.{width_of}
use Rattle.digits.specs.Stores.{Written}
use Rattle.refusals.specs.declared.Refusal.{Refusal}
use Rattle.calendar.specs.declared.moments.Moment.{Moment}
use Rattle.text.specs.Answers.{answer_from, number_of}
use Rattle.text.specs.Texts.{text_of, fitting}
use Rattle.text.proofs.Spelled.{refusal_length, fits, passes}
use Rattle.text.proofs.spelling.write_answer.Goals as goal

-- there is room for a moment
moment_room : (a : Result Moment Refusal) (t : Moment) {room : ℕ} → length (text_of (answer_from a)) ≤ room → a ≡ Ok t → 19 ≤ room
unfolding text_of
moment_room a t h e = rw e at h

-- for a refusal
refusal_room : (a : Result Moment Refusal) (r : Refusal) {room : ℕ} → length (text_of (answer_from a)) ≤ room → a ≡ Err r → 12 + width_of (number_of r.reason) + width_of r.place ≤ room
unfolding text_of
refusal_room a r h e = rw (e, refusal_length) at h

-- what is written is the whole answer
whole :
    (a : Result Moment Refusal) {n : ℕ} {out after : List ℕ} → n ≡ length (text_of (answer_from a)) → length (text_of (answer_from a)) ≤ length out
    → after ≡ sets out 0 (text_of (answer_from a)) → Written (fitting (length out) (text_of (answer_from a))) n out after
whole a n h e = rw (fits _ _ h) (record { count = n; stored = e })

pub returns-then-out-n : goal.returns-then-out-n
returns-then-out-n c =
    let args = c.args in
    let size = c.size-n.ensures in
    rw (passes (length args.out.now) (text_of (answer_from args.a)) (omega arith)) (record { count = refl; stored = refl })

pub put_moment-requires : goal.put_moment-requires
put_moment-requires c = moment_room c.args.a c.in-Ok.t (omega (arith, c.size-n.ensures, c.if-out-n.false)) c.in-Ok.is

pub put_refusal-requires : goal.put_refusal-requires
put_refusal-requires c = rw c.number.ensures.value (refusal_room c.args.a c.in-Err.r (omega (arith, c.size-n.ensures, c.if-out-n.false)) c.in-Err.is)

pub returns-in-Ok : goal.returns-in-Ok
unfolding text_of
returns-in-Ok c = whole c.args.a c.size-n.ensures (omega (arith, c.size-n.ensures, c.if-out-n.false)) (rw (c.put_moment.ensures, c.in-Ok.is))

pub returns-in-Err : goal.returns-in-Err
unfolding text_of
returns-in-Err c = whole c.args.a c.size-n.ensures (omega (arith, c.size-n.ensures, c.if-out-n.false)) (rw (c.put_refusal.ensures, c.in-Err.is, c.number.ensures.value))
