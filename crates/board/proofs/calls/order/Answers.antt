use native.Mathlib.Omega.{arith}
use Rattle.board.specs.Boards.{order_of}
use Rattle.board.proofs.calls.order.Goals as goal

pub put_slots-requires : goal.put_slots-requires
put_slots-requires c =
    let most = c.count.ensures.1 in
    (omega arith, omega arith)

pub returns : goal.returns
unfolding order_of
returns c =
    let n = c.count in
    record { value = (λ ready lengths. rw (← n.ensures.0) c.put_slots.ensures.value); slots_after = λ ready lengths. rw (← n.ensures.0) c.put_slots.ensures.slots_after }
