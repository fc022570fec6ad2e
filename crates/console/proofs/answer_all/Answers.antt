-- `console::answer_all` meets its contract. Assumes nothing.
use mathlib.Core.Bool.{false}
use mathlib.Core.Path.{refl}
use native.Mathlib.Omega.{arith}
use Rattle.console.specs.Turns.{start}
use Rattle.console.proofs.Turns.{going_on, left_off}
use Rattle.console.proofs.answer_all.Goals as goal

pub loop-init : goal.loop-init
loop-init g c = record { reached = start; few = omega arith; input = refl; output = refl }

pub loop-preserved : goal.loop-preserved
loop-preserved g c =
    going_on c.loop.invariant (rw c.in-More.is at c.answer_next.ensures) c.answer_next.auto.s c.answer_next.auto.out

pub returns-in-Failed : goal.returns-in-Failed
returns-in-Failed g c =
    let next = going_on c.loop.invariant (rw c.in-Failed.is at c.answer_next.ensures) c.answer_next.auto.s c.answer_next.auto.out in
    left_off next false c.requires.0
