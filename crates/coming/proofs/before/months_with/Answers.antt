use native.Mathlib.Omega.{arith}
use Rattle.coming.proofs.Sums.{months_none, months_more, months_all}
use Rattle.coming.proofs.before.months_with.Goals as goal

pub loop-r-init : goal.loop-r-init
loop-r-init c = let a = c.args in omega (arith, months_none a.day a.i a.month a.turns)

pub loop-r-preserved : goal.loop-r-preserved
loop-r-preserved c =
    let a = c.args in
    let more = rw (← c.rounded_up.ensures.0, ← c.turns_with-sum.ensures.0) at (months_more a.day a.i a.month a.turns c.loop-r.r) in
    omega (arith, more)

pub returns : goal.returns
returns c = let a = c.args in omega (arith, months_all a.day a.i a.month a.turns c.loop-r.r (omega arith))
