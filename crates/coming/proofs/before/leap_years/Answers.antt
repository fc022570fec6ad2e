use native.Mathlib.Omega.{arith}
use Rattle.coming.proofs.Sums.{leaps_none, leaps_more, leaps_all}
use Rattle.coming.proofs.before.leap_years.Goals as goal

pub loop-v-init : goal.loop-v-init
loop-v-init c = let a = c.args in omega (arith, leaps_none a.y a.i a.u)

pub loop-v-preserved : goal.loop-v-preserved
loop-v-preserved c = let a = c.args in omega (arith, leaps_more a.y a.i a.u c.loop-v.v)

pub returns : goal.returns
returns c = let a = c.args in omega (arith, leaps_all a.y a.i a.u c.loop-v.v (omega arith))
