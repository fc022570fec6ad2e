use native.Mathlib.Omega.{arith}
use borrow.Author.Tests.{lt-ltb, le-ltb, eq-eqb, ne_eqb}
use Rattle.board.specs.Boards.{remove_of}
use Rattle.board.proofs.calls.remove.Goals as goal
use Rattle.board.proofs.calls.remove.Goals.{then-s-ge-BOARD_SLOTS-via-then-s-ge-BOARD_SLOTS, then-s-ge-BOARD_SLOTS-via-else-s-ge-BOARD_SLOTS+then-lengths-s-eq0}

pub returns-then-s-ge-BOARD_SLOTS : goal.returns-then-s-ge-BOARD_SLOTS
unfolding remove_of
returns-then-s-ge-BOARD_SLOTS c =
    elim c.then-s-ge-BOARD_SLOTS.branch [
      | then-s-ge-BOARD_SLOTS-via-then-s-ge-BOARD_SLOTS w ↦
          let far = le-ltb _ _ w.if-s-ge-BOARD_SLOTS.true in record { value = (λ ready. rw far); state_after = λ ready. rw far }
      | then-s-ge-BOARD_SLOTS-via-else-s-ge-BOARD_SLOTS+then-lengths-s-eq0 w ↦
          let here = lt-ltb _ _ w.if-s-ge-BOARD_SLOTS.false in
          let free = eq-eqb _ _ w.if-lengths-s-eq0.true in
          record { value = (λ ready. rw (here, free)); state_after = λ ready. rw (here, free) }
    ]

pub drop_slot-left-requires : goal.drop_slot-left-requires
drop_slot-left-requires c = omega (arith, c.count.ensures.1)

pub overflow_cast-state : goal.overflow_cast-state
overflow_cast-state c = omega (arith, c.drop_slot-left.ensures.value.1, c.count.ensures.1)

pub returns : goal.returns
unfolding remove_of
returns c =
    let here = lt-ltb _ _ c.if-s-ge-BOARD_SLOTS.false in
    let held = ne_eqb _ _ c.if-lengths-s-eq0.false in
    let left = c.drop_slot-left in
    record { value = (λ ready. rw (here, held)); state_after = λ ready. rw (here, held, left.ensures.value.0, left.ensures.keys_after, c.count.ensures.0) }
