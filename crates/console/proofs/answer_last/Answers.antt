-- `console::answer_last` meets its contract. Assumes nothing.
use mathlib.Core.Path.{sym}
use native.Mathlib.Omega.{arith}
use lib.Seq.{length-take-le}
use Rattle.text.proofs.Streams.{last_limit}
use Rattle.console.proofs.answer_last.Goals as goal

pub slice_bounds-write_all-end : goal.slice_bounds-write_all-end
slice_bounds-write_all-end g c =
    let args = c.args in
    omega (arith, c.write_last-n.ensures.count, last_limit args.known args.rest.now, c.write_last-n.auto.out)

pub slice_bounds-write_all-end-2 : goal.slice_bounds-write_all-end-2
slice_bounds-write_all-end-2 g c =
    let args = c.args in
    sym
    (length-take-le _ _
    (omega (arith, c.write_last-n.ensures.count, last_limit args.known args.rest.now, c.write_last-n.auto.out)))
