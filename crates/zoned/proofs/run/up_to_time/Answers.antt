use Prim.Native.Nat.{◌*◌, ◌/◌}
use native.Mathlib.Omega.{arith}
use mathlib.Core.Path.{◌≡◌, ◌∙◌}
use mathlib.Core.Bool.{false}
use lib.ListN.{length}
use Rattle.std.proofs.lemmas.Bool.Decides.{nat_tests}
use Rattle.steps.specs.Running.{is_time_step}
use Rattle.records.specs.Words.{step_from}
use Rattle.records.specs.Records.{words_at}
use Rattle.records.proofs.Lists.{steps_next}
use Rattle.zoned.proofs.run.up_to_time.Goals as goal

pub loop-i-preserved : goal.loop-i-preserved
loop-i-preserved c =
    let b = c.args.b.now in
    let next = steps_next (length b / 16) c.loop-i.i b c.loop-i-test.true in
    let other : is_time_step (step_from (words_at b (16 * c.loop-i.i))) ≡ false = grind (arith, nat_tests) in
    c.loop-i.invariant ∙ rw (next, other) (omega arith)
