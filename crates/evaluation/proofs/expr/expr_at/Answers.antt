use Rattle.std.proofs.Common.{arith}
use Rattle.calendar.proofs.Outcomes.{at_moment}
use Rattle.evaluation.proofs.expr.expr_at.Goals as goal

pub back_to-requires : goal.back_to-requires
back_to-requires c = (at_moment c.duration_step.ensures.valid (c.in_ok-duration_step-in-WeekdayExpressionBefore.was), omega arith)

pub forward_to-requires : goal.forward_to-requires
forward_to-requires c = (at_moment c.duration_step-in-WeekdayExpressionAfter.ensures.valid (c.in_ok-duration_step-in-WeekdayExpressionAfter.was), omega arith)

pub duration_step-requires-in-DateExpressionBefore :
    goal.duration_step-requires-in-DateExpressionBefore
duration_step-requires-in-DateExpressionBefore c =
    (c.row-in-DateExpressionBefore.ensures.some, at_moment c.date_at-in-DateExpressionBefore.ensures.valid (c.in_ok-date_at-in-DateExpressionBefore.was))

pub duration_step-requires-in-DateExpressionAfter :
    goal.duration_step-requires-in-DateExpressionAfter
duration_step-requires-in-DateExpressionAfter c =
    (c.row-in-DateExpressionAfter.ensures.some, at_moment c.date_at-in-DateExpressionAfter.ensures.valid (c.in_ok-date_at-in-DateExpressionAfter.was))
