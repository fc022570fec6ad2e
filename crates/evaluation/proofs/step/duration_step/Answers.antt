use Rattle.std.proofs.Common.{arith}
use Rattle.std.proofs.lemmas.Result.{err_from_is_err_and}
use Rattle.calendar.proofs.Outcomes.{at_moment}
use Rattle.evaluation.proofs.Rows.{row_on, row_refused, row_done}
use Rattle.evaluation.proofs.step.duration_step.Goals as goal

pub returns-in_err-t-clause-result_value : goal.returns-in_err-t-clause-result_value
returns-in_err-t-clause-result_value c =
    let p = err_from_is_err_and c.from_residual.result c.from_residual.ensures.1 in
    let l = c.loop-slot in
    rw (p.1, p.2) (row_refused _ _ l.slot-index _ l.t c.loop-slot-test.true l.invariant.same_way _ c.in_err-t.ensures.result_value)

pub loop-slot-preserved : goal.loop-slot-preserved
loop-slot-preserved c =
    let l = c.loop-slot in
    record {
      of_calendar = at_moment c.part_step.ensures.valid (c.in_ok-t.was);
      same_way = row_on _ _ l.slot-index _ l.t c.loop-slot-test.true l.invariant.same_way _ c.in_ok-t.ensures.result_value;
    }

pub returns-clause-result_value : goal.returns-clause-result_value
returns-clause-result_value c = row_done _ _ c.loop-slot.slot-index _ _ c.requires.0 (omega arith) c.loop-slot.invariant.same_way
