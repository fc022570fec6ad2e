use mathlib.Core.Path.{refl}
use Rattle.records.proofs.Runs.{walk_on}
use Rattle.records.proofs.run.walk.Goals as goal

pub loop-i-preserved : goal.loop-i-preserved
loop-i-preserved c =
    let l = c.loop-i in
    let acted = rw c.step_at.ensures at c.in_ok-t.ensures.result_value in
    record {
      of_calendar = c.in_ok-t.ensures.valid.valid _ refl;
      same_way = rw (walk_on _ _ _ _ _ c.loop-i-test.true, ← acted) at l.invariant.same_way;
    }
