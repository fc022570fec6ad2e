use Rattle.std.proofs.Common.{arith}
use Rattle.std.proofs.lemmas.Grind.{common_steps}
use Rattle.repeats.specs.Occurrences.{weekdays_of}
use Rattle.coming.proofs.Lengths.{count_step, count_zero}
use Rattle.coming.proofs.before.weekdays_below.Goals as goal

pub loop-k-init : goal.loop-k-init
loop-k-init c = grind (arith, count_zero (weekdays_of c.args.bits c.args.start))

pub loop-k-preserved : goal.loop-k-preserved
loop-k-preserved c = grind (arith, common_steps, count_step (weekdays_of c.args.bits c.args.start) c.loop-k.k)
