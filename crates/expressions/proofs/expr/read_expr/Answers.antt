use native.Mathlib.Omega.{arith}
use Rattle.std.proofs.lemmas.Grind.{common_steps}
use Rattle.expressions.specs.DateExprs.{date_expr_of}
use Rattle.expressions.proofs.ExprAnswers.{expr_promised}
use Rattle.expressions.proofs.expr.read_expr.Goals as goal

pub returns-in_err-d-clause-value : goal.returns-in_err-d-clause-value
unfolding date_expr_of
returns-in_err-d-clause-value c = grind (arith, common_steps)

pub returns-in_err-d-clause-expr_counted : goal.returns-in_err-d-clause-expr_counted
returns-in_err-d-clause-expr_counted c = (expr_promised c.args.reading c.args.l.now (returns-in_err-d-clause-value c)).1

pub returns-in-Some-clause-value : goal.returns-in-Some-clause-value
unfolding date_expr_of
returns-in-Some-clause-value c = grind (arith, common_steps)

pub returns-in-Some-clause-expr_counted : goal.returns-in-Some-clause-expr_counted
returns-in-Some-clause-expr_counted c = (expr_promised c.args.reading c.args.l.now (returns-in-Some-clause-value c)).1

pub returns-in-None-clause-value : goal.returns-in-None-clause-value
unfolding date_expr_of
returns-in-None-clause-value c = grind (arith, common_steps)

pub returns-in-None-clause-expr_counted : goal.returns-in-None-clause-expr_counted
returns-in-None-clause-expr_counted c = (expr_promised c.args.reading c.args.l.now (returns-in-None-clause-value c)).1
