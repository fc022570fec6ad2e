use Prim.Native.Nat.{◌+◌, ◌-◌, ◌*◌, min}
use native.Mathlib.Omega.{arith}
use mathlib.Core.Path.{◌≡◌}
use lib.ListN.{get_or}
use Rattle.board.specs.Boards.{key_at}
use Rattle.board.proofs.slots.key_at.Goals as goal

pub returns : goal.returns
unfolding key_at
returns c keys state =
    let at = 384 * c.args.slot in
    let size : at + c.min-size.result - at ≡ min (get_or c.args.lengths.now c.args.slot 0) 384 = omega (arith, c.min-size.ensures) in
    rw (c.due.ensures.0, c.run_ready.ensures.result_value, size)
