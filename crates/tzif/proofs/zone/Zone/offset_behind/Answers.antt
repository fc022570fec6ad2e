use Prim.Native.Nat.{◌-◌}
use native.Mathlib.Omega.{arith}
use borrow.Author.Tests.{eq-eqb, ne_eqb}
use Rattle.tzif.specs.File.{offset_behind}
use Rattle.tzif.proofs.Checked.{known}
use Rattle.tzif.proofs.zone.Zone.offset_behind.Goals as goal

pub offset_at-requires : goal.offset_at-requires
offset_at-requires c = let k = known _ _ c.args.self.checked in omega (arith, k.first)

pub returns-then-k-eq0 : goal.returns-then-k-eq0
unfolding offset_behind
returns-then-k-eq0 c =
    let offset = c.offset_at.ensures in
    let k = known _ _ c.args.self.checked in
    (rw (eq-eqb _ _ c.if-k-eq0.true) offset, rw offset k.some, rw offset k.below)

pub overflow_add-index : goal.overflow_add-index
overflow_add-index c = let k = known _ _ c.args.self.checked in omega (arith, k.indexes)

pub bounds-self-self : goal.bounds-self-self
bounds-self-self c = let k = known _ _ c.args.self.checked in omega (arith, k.indexes)

pub offset_at-requires-2 : goal.offset_at-requires-2
offset_at-requires-2 c = let k = known _ _ c.args.self.checked in omega (arith, k.types (c.args.k - 1) (omega arith))

pub returns : goal.returns
unfolding offset_behind
returns c =
    let offset = c.offset_at-2.ensures in
    let row = (known _ _ c.args.self.checked).row (c.args.k - 1) (omega arith) in
    (rw (ne_eqb _ _ c.if-k-eq0.false) offset, rw offset row.some, rw offset row.shift)
