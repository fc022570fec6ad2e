use Rattle.std.proofs.Common.{rules, ◌≡◌, ◌⊎◌, inl, inr}
use Rattle.std.proofs.Math.Seq.{slice}
use Rattle.std.proofs.lemmas.Result.{err_from_is_err_and}
use Rattle.calendar.specs.Moments.{and_then}
use Rattle.calendar.specs.declared.moments.Moment.{Moment}
use Rattle.calendar.proofs.Outcomes.{at_moment}
use Rattle.expressions.specs.Shapes.{expr_from}
use Rattle.expressions.specs.declared.expr.Expr.{Expr}
use Rattle.phrase.specs.Chains.{base_of, row_duration}
use Rattle.phrase.specs.declared.chain.Chain.{Chain}
use Rattle.phrase.specs.declared.chain.Base.TheVariants.{DateTime, TimeDate}
use Rattle.evaluation.specs.Times.{time_at}
use Rattle.evaluation.specs.Evaluate.{date_expr_at, evaluate_in, evaluate}
use Rattle.evaluation.proofs.chain.base_at.Goals as goal

-- a base with a date, whichever of date and time of day comes first
dated : (r : Chain) (e : Expr) (n : Moment) → (r.base ≡ DateTime e) ⊎ (r.base ≡ TimeDate e) →
    evaluate (base_of r) n ≡ and_then (date_expr_at (expr_from e (row_duration (slice r.own r.parts.n r.parts.items))) n) (time_at r.time n)
unfolding evaluate_in
dated r e n (inl b) = rw b
dated r e n (inr b) = rw b

pub returns-in_err-expr_at-in-DateTime-clause-result_value :
    goal.returns-in_err-expr_at-in-DateTime-clause-result_value
returns-in_err-expr_at-in-DateTime-clause-result_value c =
    let p = err_from_is_err_and c.from_residual.result c.from_residual.ensures.1 in
    rw (p.1, p.2, dated c.args.r.now c.in-DateTime.expr c.args.now c.in-DateTime.is, ← c.in_err-expr_at-in-DateTime.ensures.result_value)

pub time_at-requires : goal.time_at-requires
time_at-requires c = (c.requires.0, at_moment c.expr_at.ensures.valid c.in_ok-expr_at-in-DateTime.was)

pub returns-in-Now-clause-result_value : goal.returns-in-Now-clause-result_value
unfolding evaluate_in
returns-in-Now-clause-result_value c = search rules

pub returns-in_ok-expr_at-in-DateTime-clause-result_value :
    goal.returns-in_ok-expr_at-in-DateTime-clause-result_value
returns-in_ok-expr_at-in-DateTime-clause-result_value c =
    rw (dated c.args.r.now c.in-DateTime.expr c.args.now c.in-DateTime.is, ← c.in_ok-expr_at-in-DateTime.ensures.result_value) c.time_at.ensures.result_value
