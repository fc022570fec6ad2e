use Rattle.std.specs.Prelude.{ℕ, ◌*◌, []}
use Rattle.std.proofs.Common.{ap}
use native.Mathlib.Omega.{arith}
use Rattle.board.specs.Boards.{memory}
use Rattle.fuzzydate.proofs.BoardNumbers.{order_few}
use Rattle.fuzzydate.proofs.fuzzy_board_order_in.Goals as goal

pub overflow_mul-result : goal.overflow_mul-result
overflow_mul-result c = omega (arith, c.order.ensures.value [] [], order_few (memory [] [] c.args.keys.now c.args.state.now))

pub returns : goal.returns
returns c =
    record {
      value = (λ ready lengths. ap (λ (k : ℕ). 4294967296 * k) (c.order.ensures.value ready lengths));
      slots_after = c.order.ensures.slots_after;
    }
