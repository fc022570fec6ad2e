-- The steps of a reading, in the order in which `evaluate` acts. They are gathered by `start` and `add`: into a list, which is what
-- they are, or into the code's struct.
use Rattle.std.specs.Prelude.{ℕ, ◌*◌, Bool, true, false, cond, ◌&&◌, List, [], ◌∷◌}
use Rattle.dates.specs.Durations.{Duration, part, concat, is_sub_daily_unit}
use Rattle.dates.specs.declared.date.Date.{Date}
use Rattle.dates.specs.declared.date.Date.TheVariants.{Today}
use Rattle.dates.specs.declared.duration.Part.{Part}
use Rattle.dates.specs.declared.duration.Part.TheVariants.{Article, Specific}
use Rattle.dates.specs.declared.units.RelativeSpecifier.{RelativeSpecifier}
use Rattle.dates.specs.declared.units.RelativeSpecifier.TheVariants.{This, Next, Last}
use Rattle.dates.specs.declared.units.Unit.{Unit}
use Rattle.dates.specs.declared.units.Unit.TheVariants.{Day, Week, Hour, Minute, Month, Year}
use Rattle.expressions.specs.Tree.{DateExpr, date, date_relative, date_expression_after, date_expression_before, unit_relative}
use Rattle.expressions.specs.Tree.{relative_weekday, weekday_relative, weekday_expression_before, weekday_expression_after, before, after, weekday, empty}
use Rattle.phrase.specs.Tree.{DateTime, date_time, time_date, duration_after, duration_before, now}
use Rattle.evaluation.specs.Evaluate.{is_year, is_week, is_month_and_day}
use Rattle.steps.specs.Joining.{add_step}
use Rattle.steps.specs.Plans.{begun, add_to}
use Rattle.steps.specs.declared.plan.Plan.{Plan}
use Rattle.steps.specs.declared.plan.Start.{Start}
use Rattle.steps.specs.declared.plan.Start.TheVariants.{Now, Senseless, OnDate, InWeek, FromToday}
use Rattle.steps.specs.declared.plan.Move.{Move}
use Rattle.steps.specs.declared.plan.Move.TheVariants.{Minutes, Months, Years, BackTo, ForwardTo}
use Rattle.steps.specs.declared.plan.Step.{Step}
use Rattle.steps.specs.declared.plan.Step.TheVariants.{From, By, AtTime}

-- "Days, weeks, hours, minutes are fixed lengths."
abbrev pub length_move : Bool → ℕ → Unit → Move
length_move back k Day = Minutes back (1440 * k)
length_move back k Week = Minutes back (10080 * k)
length_move back k Hour = Minutes back (60 * k)
length_move back k Minute = Minutes back k
length_move back k Month = Months back k
length_move back k Year = Years back k

-- `Duration::num`: an article is one
abbrev pub move_of_part : Bool → Part → Move
move_of_part back (Article u) = length_move back 1 u
move_of_part back (Specific u k) = length_move back k u

-- how steps are gathered
pub record Gathering (A : Type 0) : Type 0 where
  pub start : Start → A
  pub add : A → Step → A

-- "The parts of a joined duration act first to last."
abbrev pub add_duration : {A : Type 0} → Gathering A → Bool → A → Duration → A
add_duration g back ss (part p) = g.add ss (By (move_of_part back p))
add_duration g back ss (concat p d) = add_duration g back (g.add ss (By (move_of_part back p))) d

-- a year on or back, by the specifier
abbrev pub add_year : {A : Type 0} → Gathering A → RelativeSpecifier → A → A
add_year g This ss = ss
add_year g Next ss = g.add ss (By (Years false 1))
add_year g Last ss = g.add ss (By (Years true 1))

-- 9: "a `DateRelative` whose unit isn't year or whose date isn't `MonthNumDay` or `MonthDay`"
abbrev pub date_relative_steps : {A : Type 0} → Gathering A → Date → RelativeSpecifier → Unit → A
date_relative_steps g d s u = cond (is_year u && is_month_and_day d) (add_year g s (g.start (OnDate d))) (g.start Senseless)

-- today, and one unit on or back
abbrev pub add_unit : {A : Type 0} → Gathering A → RelativeSpecifier → Unit → A
add_unit g This u = g.start Senseless
add_unit g Next u = g.add (g.start (OnDate Today)) (By (length_move false 1 u))
add_unit g Last u = g.add (g.start (OnDate Today)) (By (length_move true 1 u))

-- 9: "a `UnitRelative` of "this", or of hour or minute"
abbrev pub unit_relative_steps : {A : Type 0} → Gathering A → RelativeSpecifier → Unit → A
unit_relative_steps g s u = cond (is_sub_daily_unit u) (g.start Senseless) (add_unit g s u)

-- 9: "a `WeekdayRelative` whose unit isn't week"
abbrev pub weekday_relative_steps : {A : Type 0} → Gathering A → ℕ → RelativeSpecifier → Unit → A
weekday_relative_steps g w s u = cond (is_week u) (g.start (InWeek s w)) (g.start Senseless)

-- "a weekday expression starts at today, and its duration parts are steps like any others"; then the step to its weekday
abbrev pub weekday_steps : {A : Type 0} → Gathering A → Bool → Duration → Move → A
weekday_steps g back dur to = g.add (add_duration g back (g.start (OnDate Today)) dur) (By to)

-- the steps of a date expression: "A date rule is one date of the reading with its own numbers, and holds no duration and no time"
unfoldable pub expr_steps : {A : Type 0} → Gathering A → DateExpr → A
expr_steps g (date d) = g.start (OnDate d)
expr_steps g (date_relative d s u) = date_relative_steps g d s u
expr_steps g (weekday_expression_before w dur) = weekday_steps g true dur (BackTo w)
expr_steps g (weekday_expression_after w dur) = weekday_steps g false dur (ForwardTo w)
expr_steps g (date_expression_after d dur) = add_duration g false (g.start (OnDate d)) dur
expr_steps g (date_expression_before d dur) = add_duration g true (g.start (OnDate d)) dur
expr_steps g (before dur d) = add_duration g true (g.start (OnDate d)) dur
expr_steps g (after dur d) = add_duration g false (g.start (OnDate d)) dur
expr_steps g (unit_relative s u) = unit_relative_steps g s u
expr_steps g (relative_weekday s w) = g.start (InWeek s w)
expr_steps g (weekday_relative w s u) = weekday_relative_steps g w s u
expr_steps g (weekday w) = g.start (FromToday w)
expr_steps g empty = g.start (OnDate Today)

-- the steps of a whole phrase: "A dated start has now's time of day until its one time step, always there, even for now's own time."
unfoldable pub tree_steps : {A : Type 0} → Gathering A → DateTime → A
tree_steps g now = g.start Now
tree_steps g (date_time e t) = g.add (expr_steps g e) (AtTime t)
tree_steps g (time_date t e) = g.add (expr_steps g e) (AtTime t)
tree_steps g (duration_after dur x) = add_duration g false (tree_steps g x) dur
tree_steps g (duration_before dur x) = add_duration g true (tree_steps g x) dur

-- gathered into a list
abbrev pub listed : Gathering (List Step)
listed = record { start = λ s. From s ∷ []; add = add_step }

-- the steps of a reading
abbrev pub steps_of : DateTime → List Step
steps_of x = tree_steps listed x

-- gathered into the code's struct: `planned` says that it holds the same list
abbrev pub held : Gathering Plan
held = record { start = begun; add = add_to }
