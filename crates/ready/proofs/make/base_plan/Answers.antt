use Prim.Native.Nat.{◌<◌}
use native.Mathlib.Omega.{arith}
use mathlib.Core.Path.{◌≡◌}
use mathlib.Core.Bool.{true}
use Rattle.std.proofs.Common.{◌⊎◌, inl, inr}
use lib.Seq.{slice}
use Rattle.expressions.specs.Shapes.{expr_from, has_duration, size_expr}
use Rattle.expressions.specs.declared.expr.Expr.{Expr}
use Rattle.phrase.specs.Chains.{base_of, row_duration, size_tree}
use Rattle.phrase.specs.Formed.{Formed}
use Rattle.phrase.specs.declared.chain.Base.TheVariants.{DateTime, TimeDate}
use Rattle.phrase.specs.declared.chain.Chain.{Chain}
use Rattle.steps.specs.Plans.{add_to}
use Rattle.steps.specs.declared.plan.Step.TheVariants.{AtTime}
use Rattle.ready.specs.Made.{expr_steps, tree_steps, held}
use Rattle.ready.proofs.Within.{may_add, started, behind}
use Rattle.ready.proofs.make.base_plan.Goals as goal

-- a base with a date, whichever of date and time of day comes first: its steps, its parts, and where they are
record Dated (r : Chain) (e : Expr) : Type 0 where
  steps : tree_steps held (base_of r) ≡ add_to (expr_steps held (expr_from e (row_duration (slice r.own r.parts.n r.parts.items)))) (AtTime r.time)
  parts : size_tree (base_of r) ≡ size_expr (expr_from e (row_duration (slice r.own r.parts.n r.parts.items)))
  own : Formed r → has_duration e ≡ true → r.own < r.parts.n

dated : (r : Chain) (e : Expr) → (r.base ≡ DateTime e) ⊎ (r.base ≡ TimeDate e) → Dated r e
unfolding tree_steps
dated r e (inl b) = record { steps = rw b; parts = rw b; own = λ formed has. formed.own (rw b has) }
dated r e (inr b) = record { steps = rw b; parts = rw b; own = λ formed has. formed.own (rw b has) }

pub expr_plan-requires : goal.expr_plan-requires
expr_plan-requires c = (c.requires.0.parts, (dated c.args.r.now c.in-DateTime.expr (inl c.in-DateTime.is)).own c.requires.0)

pub expr_plan-requires-in-TimeDate : goal.expr_plan-requires-in-TimeDate
expr_plan-requires-in-TimeDate c = (c.requires.0.parts, (dated c.args.r.now c.in-TimeDate.expr (inr c.in-TimeDate.is)).own c.requires.0)

pub add-requires : goal.add-requires
add-requires c =
    let same = (dated c.args.r.now c.in-DateTime.expr (inl c.in-DateTime.is)).parts in
    may_add c.expr_plan.ensures.within (AtTime c.args.r.now.time) (omega arith) (omega (arith, same, c.requires.1))

pub add-requires-in-TimeDate : goal.add-requires-in-TimeDate
add-requires-in-TimeDate c =
    let same = (dated c.args.r.now c.in-TimeDate.expr (inr c.in-TimeDate.is)).parts in
    may_add c.expr_plan-in-TimeDate.ensures.within (AtTime c.args.r.now.time) (omega arith) (omega (arith, same, c.requires.1))

pub returns-in-Now : goal.returns-in-Now
unfolding tree_steps
returns-in-Now c = rw c.in-Now.is (started _ c.single.ensures (omega arith))

pub returns-in-DateTime : goal.returns-in-DateTime
returns-in-DateTime c =
    let base = dated c.args.r.now c.in-DateTime.expr (inl c.in-DateTime.is) in
    rw (base.steps, base.parts)
    (behind (c.expr_plan.ensures.value, c.expr_plan.ensures.within) (AtTime c.args.r.now.time) c.add.ensures (omega arith) (omega arith))

pub returns-in-TimeDate : goal.returns-in-TimeDate
returns-in-TimeDate c =
    let base = dated c.args.r.now c.in-TimeDate.expr (inr c.in-TimeDate.is) in
    rw (base.steps, base.parts)
    (behind (c.expr_plan-in-TimeDate.ensures.value, c.expr_plan-in-TimeDate.ensures.within) (AtTime c.args.r.now.time) c.add-in-TimeDate.ensures (omega arith) (omega arith))
