use native.Mathlib.Omega.{arith}
use Rattle.board.specs.Boards.{again_of}
use Rattle.board.proofs.Anew.{order_anywhere}
use Rattle.board.proofs.calls.again.Goals as goal

pub overflow_cast-n : goal.overflow_cast-n
overflow_cast-n c = omega (arith, c.order_anew-n.ensures.value.1)

pub returns-then-not-valid : goal.returns-then-not-valid
unfolding again_of
returns-then-not-valid c =
    let valid = c.valid in
    record { value = rw (← valid.ensures, c.if-not-valid.true); state_after = rw (← valid.ensures, c.if-not-valid.true) }

pub returns : goal.returns
unfolding again_of
returns c =
    let valid = c.valid in
    let taken = c.if-not-valid.false in
    let anew = c.order_anew-n in
    let same = order_anywhere c.args.ready.now c.args.lengths.now c.args.keys.now c.args.state.now c.args.at in
    record { value = rw (← valid.ensures, taken); state_after = rw (← valid.ensures, taken, same, c.put_state.ensures, anew.ensures.value.0, anew.ensures.keys_after) }
