use native.Mathlib.Omega.{arith}
use mathlib.Core.Path.{sym, ◌∙◌}
use Rattle.board.specs.Boards.{memory}
use Rattle.board.proofs.Free.{found_within, slot_found, none_found}
use Rattle.board.proofs.slots.free_slot.Goals as goal

pub returns-then-count-eq-BOARD_SLOTS-clause-value : goal.returns-then-count-eq-BOARD_SLOTS-clause-value
returns-then-count-eq-BOARD_SLOTS-clause-value c =
    λ ready keys. none_found (memory ready c.args.lengths.now keys c.args.state.now) (omega (arith, c.count.ensures.0))

pub returns : goal.returns
returns c =
    let a = c.args in
    let found = c.lowest_free.ensures in
    record {
      value = λ ready keys. rw found (slot_found (memory ready a.lengths.now keys a.state.now) c.told-lengths (omega (arith, c.count.ensures)));
      bounds = λ s e. (omega (arith, found_within a.lengths.now s (sym found ∙ e), c.told-lengths), omega (arith, c.count.ensures));
    }
