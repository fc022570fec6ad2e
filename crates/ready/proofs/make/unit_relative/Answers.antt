use native.Mathlib.Omega.{arith}
use mathlib.Core.Path.{◌≡◌, sym, ◌∙◌}
use mathlib.Core.Bool.{false}
use Rattle.dates.specs.Durations.{is_sub_daily_unit}
use Rattle.dates.specs.declared.date.Date.TheVariants.{Today}
use Rattle.steps.specs.Plans.{begun}
use Rattle.steps.specs.declared.plan.Start.TheVariants.{OnDate}
use Rattle.steps.specs.declared.plan.Step.TheVariants.{By}
use Rattle.ready.specs.Bounds.{Within}
use Rattle.ready.proofs.Within.{may_add, started, behind}
use Rattle.ready.proofs.make.unit_relative.Goals as goal
use Rattle.ready.proofs.make.unit_relative.Goals.{After-single-today}

-- its start
start : (c : After-single-today) → (c.single-today.result ≡ begun (OnDate Today)) × Within c.single-today.result 1
start c = started _ c.single-today.ensures (omega arith)

-- a unit of at least a day
daily : (c : After-single-today) → is_sub_daily_unit c.args.unit ≡ false
daily c = sym c.is_sub_daily_unit.ensures ∙ c.if-is_sub_daily_unit.false

pub returns-then-is_sub_daily_unit : goal.returns-then-is_sub_daily_unit
returns-then-is_sub_daily_unit c = rw (← c.is_sub_daily_unit.ensures, c.if-is_sub_daily_unit.true) (started _ c.single.ensures (omega arith))

pub add-requires : goal.add-requires
add-requires c =
    may_add (start (goal.at.add-requires c).After-single-today).1 (By c.length_move.result) c.length_move.ensures.1 (omega arith)

pub add-requires-in-Last : goal.add-requires-in-Last
add-requires-in-Last c =
    may_add (start (goal.at.add-requires-in-Last c).After-single-today).1 (By c.length_move-in-Last.result) c.length_move-in-Last.ensures.1 (omega arith)

pub returns-in-Next : goal.returns-in-Next
returns-in-Next c =
    let here = (goal.at.returns-in-Next c).After-single-today in
    let step = c.length_move in
    rw (daily here, c.in-Next.is, ← step.ensures.0)
    (behind (start here) (By step.result) c.add.ensures step.ensures.1 (omega arith))

pub returns-in-Last : goal.returns-in-Last
returns-in-Last c =
    let here = (goal.at.returns-in-Last c).After-single-today in
    let step = c.length_move-in-Last in
    rw (daily here, c.in-Last.is, ← step.ensures.0)
    (behind (start here) (By step.result) c.add-in-Last.ensures step.ensures.1 (omega arith))

pub returns-in-This : goal.returns-in-This
returns-in-This c =
    rw (daily (goal.at.returns-in-This c).After-single-today, c.in-This.is) (started _ c.single-in-This.ensures (omega arith))
