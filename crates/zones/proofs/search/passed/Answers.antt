use Prim.Native.Nat.{◌/◌, ◌+◌}
use native.Mathlib.Omega.{arith}
use mathlib.Core.Path.{sym}
use Rattle.zones.proofs.Bounds.{known_of}
use Rattle.zones.proofs.Pieces.{passed_is, rising}
use Rattle.zones.proofs.search.passed.Goals as goal

pub overflow_add-mid : goal.overflow_add-mid
overflow_add-mid c = omega (arith, (known_of c.args.zone).times)

pub loop-lo-preserved-then-transition_at-s : goal.loop-lo-preserved-then-transition_at-s
loop-lo-preserved-then-transition_at-s c =
    let mid = (c.loop-lo.lo + c.loop-lo.hi) / 2 in
    record {
      within = omega arith;
      ends = omega arith;
      low = λ j h.
          let up = rising _ _ (known_of c.args.zone) j mid (omega arith) (omega arith) in
          omega (arith, c.transition_at.ensures.0, c.if-transition_at-s.true);
      high = c.loop-lo.invariant.high;
    }

pub loop-lo-preserved : goal.loop-lo-preserved
loop-lo-preserved c =
    let mid = (c.loop-lo.lo + c.loop-lo.hi) / 2 in
    record {
      within = omega arith;
      ends = omega arith;
      low = c.loop-lo.invariant.low;
      high = λ j h m.
          let up = rising _ _ (known_of c.args.zone) mid j (omega arith) m in
          omega (arith, c.transition_at.ensures.0, c.if-transition_at-s.false);
    }

pub returns : goal.returns
returns c =
    let zone = c.args.zone in
    let inv = c.loop-lo.invariant in
    let behind = inv.high c.loop-lo.lo (omega arith) in
    (sym (passed_is zone.file.now zone.places c.args.s c.loop-lo.lo (omega arith) inv.low behind), omega arith)
