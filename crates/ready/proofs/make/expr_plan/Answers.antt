use Prim.Native.Nat.{◌+◌, ◌≤◌, ◌<◌}
use native.Mathlib.Omega.{arith}
use mathlib.Core.Path.{◌≡◌, refl, ap, sym, ◌∙◌}
use mathlib.Core.Bool.{Bool, true, false}
use Rattle.std.proofs.Common.{◌⊎◌, inl, inr}
use lib.ListN.{length}
use lib.Seq.{slice}
use Rattle.dates.specs.Durations.{Duration, size}
use Rattle.dates.specs.declared.date.Date.{Date}
use Rattle.expressions.specs.declared.expr.Expr.{Expr}
use Rattle.expressions.specs.declared.expr.Expr.TheVariants.{DateExpressionAfter, After, DateExpressionBefore, Before}
use Rattle.expressions.specs.Shapes.{expr_from, has_duration, size_expr}
use Rattle.phrase.specs.Chains.{row_duration}
use Rattle.steps.specs.Plans.{add_to, begun}
use Rattle.steps.specs.declared.plan.Start.TheVariants.{OnDate}
use Rattle.steps.specs.declared.plan.Plan.{Plan}
use Rattle.steps.specs.declared.plan.Move.TheVariants.{BackTo, ForwardTo}
use Rattle.steps.specs.declared.plan.Step.TheVariants.{By}
use Rattle.ready.specs.Made.{add_duration, expr_steps, held}
use Rattle.ready.proofs.Rows.{row_size}
use Rattle.ready.proofs.Within.{may_add, within_start, within_wider, within_behind}
use Rattle.ready.proofs.make.expr_plan.Goals as goal
use Rattle.ready.proofs.make.expr_plan.Goals.{Start}

-- an expression with a duration has parts of its own, and the row has at most 21
own : (c : Start) {e : Expr} → c.args.expr ≡ e → has_duration e ≡ true → (c.args.own < c.args.parts.n) × (c.args.parts.n ≤ 21)
own c h d = (c.requires.1 (ap has_duration h ∙ d), c.requires.0)

-- every part of the row is there
within : (c : Start) → c.args.parts.n ≤ length c.args.parts.items
within c = let long : length c.args.parts.items ≡ 21 = c.well_formed.1.0.1.1.1.0.1.0.1 in omega (arith, c.requires.0)

-- as many parts as its duration has, and at most 21 up to its end
row :
    (c : Start) {e : Expr} → c.args.expr ≡ e → has_duration e ≡ true → let parts = c.args.parts in
    (size (row_duration (slice c.args.own parts.n parts.items)) + c.args.own ≡ parts.n) × (parts.n ≤ 21)
row c h d =
    let parts = c.args.parts in
    (row_size parts.items c.args.own parts.n (own c h d).0 (within c), c.requires.0)

-- a date with a duration from it, however it is said
record Lasting (e : Expr) (back : Bool) (d : Date) : Type 0 where
  has : has_duration e ≡ true
  steps : (dur : Duration) → expr_steps held (expr_from e dur) ≡ add_duration held back (begun (OnDate d)) dur
  parts : (dur : Duration) → size_expr (expr_from e dur) ≡ size dur

on : (e : Expr) (d : Date) → (e ≡ DateExpressionAfter d) ⊎ (e ≡ After d) → Lasting e false d
unfolding expr_steps
on e d (inl b) = rw b (record { has = refl; steps = λ dur. refl; parts = λ dur. refl })
on e d (inr b) = rw b (record { has = refl; steps = λ dur. refl; parts = λ dur. refl })

back : (e : Expr) (d : Date) → (e ≡ DateExpressionBefore d) ⊎ (e ≡ Before d) → Lasting e true d
unfolding expr_steps
back e d (inl b) = rw b (record { has = refl; steps = λ dur. refl; parts = λ dur. refl })
back e d (inr b) = rw b (record { has = refl; steps = λ dur. refl; parts = λ dur. refl })

pub from_date-requires-in-DateExpressionAfter : goal.from_date-requires-in-DateExpressionAfter
from_date-requires-in-DateExpressionAfter c =
    let l = on c.args.expr c.in-DateExpressionAfter.d c.in-DateExpressionAfter.is in (c.requires.1 l.has, c.requires.0)

pub from_date-requires : goal.from_date-requires
from_date-requires c =
    let l = back c.args.expr c.in-DateExpressionBefore.d (inl c.in-DateExpressionBefore.is) in (c.requires.1 l.has, c.requires.0)

pub from_date-requires-in-Before : goal.from_date-requires-in-Before
from_date-requires-in-Before c = let l = back c.args.expr c.in-Before.d (inr c.in-Before.is) in (c.requires.1 l.has, c.requires.0)

pub returns-in-Date : goal.returns-in-Date
unfolding expr_steps
returns-in-Date c = rw c.in-Date.is (record { value = c.single.ensures; within = within_start _ c.single.ensures (omega arith) })

pub returns-in-DateRelative : goal.returns-in-DateRelative
unfolding expr_steps
returns-in-DateRelative c = rw c.in-DateRelative.is (record { value = c.date_relative.ensures.0; within = c.date_relative.ensures.1 })

pub returns-in-UnitRelative : goal.returns-in-UnitRelative
unfolding expr_steps
returns-in-UnitRelative c = rw c.in-UnitRelative.is (record { value = c.unit_relative.ensures.0; within = c.unit_relative.ensures.1 })

pub returns-in-RelativeWeekday : goal.returns-in-RelativeWeekday
unfolding expr_steps
returns-in-RelativeWeekday c =
    rw c.in-RelativeWeekday.is (record { value = c.single-in-RelativeWeekday.ensures; within = within_start _ c.single-in-RelativeWeekday.ensures (omega arith) })

pub returns-in-WeekdayRelative : goal.returns-in-WeekdayRelative
unfolding expr_steps
returns-in-WeekdayRelative c = rw c.in-WeekdayRelative.is (record { value = c.weekday_relative.ensures.0; within = c.weekday_relative.ensures.1 })

pub add-requires : goal.add-requires
add-requires c =
    let all = row (goal.at.add-requires c).Start c.in-WeekdayExpressionBefore.is refl in
    may_add c.from_date-in-WeekdayExpressionBefore.ensures.within (By (BackTo c.in-WeekdayExpressionBefore.w)) (omega arith) (omega arith)

pub add-requires-in-WeekdayExpressionAfter : goal.add-requires-in-WeekdayExpressionAfter
add-requires-in-WeekdayExpressionAfter c =
    let all = row (goal.at.add-requires-in-WeekdayExpressionAfter c).Start c.in-WeekdayExpressionAfter.is refl in
    may_add c.from_date-in-WeekdayExpressionAfter.ensures.within (By (ForwardTo c.in-WeekdayExpressionAfter.w)) (omega arith) (omega arith)

pub returns-in-WeekdayExpressionBefore : goal.returns-in-WeekdayExpressionBefore
unfolding expr_steps
returns-in-WeekdayExpressionBefore c =
    let step = By (BackTo c.in-WeekdayExpressionBefore.w) in
    let from = c.from_date-in-WeekdayExpressionBefore.ensures in
    rw c.in-WeekdayExpressionBefore.is
    (record {
      value = c.add.ensures ∙ ap (λ (p : Plan). add_to p step) from.value;
      within = within_behind from.within step c.add.ensures (omega arith) (omega arith);
    })

pub returns-in-WeekdayExpressionAfter : goal.returns-in-WeekdayExpressionAfter
unfolding expr_steps
returns-in-WeekdayExpressionAfter c =
    let step = By (ForwardTo c.in-WeekdayExpressionAfter.w) in
    let from = c.from_date-in-WeekdayExpressionAfter.ensures in
    rw c.in-WeekdayExpressionAfter.is
    (record {
      value = c.add-in-WeekdayExpressionAfter.ensures ∙ ap (λ (p : Plan). add_to p step) from.value;
      within = within_behind from.within step c.add-in-WeekdayExpressionAfter.ensures (omega arith) (omega arith);
    })

pub returns-in-Weekday : goal.returns-in-Weekday
unfolding expr_steps
returns-in-Weekday c =
    rw c.in-Weekday.is (record { value = c.single-in-Weekday.ensures; within = within_start _ c.single-in-Weekday.ensures (omega arith) })

pub returns-in-Empty : goal.returns-in-Empty
unfolding expr_steps
returns-in-Empty c =
    rw c.in-Empty.is (record { value = c.single-in-Empty.ensures; within = within_start _ c.single-in-Empty.ensures (omega arith) })

pub returns-in-DateExpressionAfter : goal.returns-in-DateExpressionAfter
returns-in-DateExpressionAfter c =
    let a = c.args in
    let from = c.from_date-in-DateExpressionAfter.ensures in
    let l = on a.expr c.in-DateExpressionAfter.d c.in-DateExpressionAfter.is in
    let row = row_duration (slice a.own a.parts.n a.parts.items) in
    record { value = from.value ∙ sym (l.steps row); within = rw (l.parts row) (within_wider from.within (omega arith)) }

pub returns-in-DateExpressionBefore : goal.returns-in-DateExpressionBefore
returns-in-DateExpressionBefore c =
    let a = c.args in
    let from = c.from_date.ensures in
    let l = back a.expr c.in-DateExpressionBefore.d (inl c.in-DateExpressionBefore.is) in
    let row = row_duration (slice a.own a.parts.n a.parts.items) in
    record { value = from.value ∙ sym (l.steps row); within = rw (l.parts row) (within_wider from.within (omega arith)) }

pub returns-in-Before : goal.returns-in-Before
returns-in-Before c =
    let a = c.args in
    let from = c.from_date-in-Before.ensures in
    let l = back a.expr c.in-Before.d (inr c.in-Before.is) in
    let row = row_duration (slice a.own a.parts.n a.parts.items) in
    record { value = from.value ∙ sym (l.steps row); within = rw (l.parts row) (within_wider from.within (omega arith)) }
