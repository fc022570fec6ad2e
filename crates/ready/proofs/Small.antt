-- Every number of the steps of a small tree fits the fields of a record, neighbours that were joined too.
use Prim.Native.Nat.{ℕ, ◌+◌, ◌*◌, ◌≤◌}
use native.Mathlib.Omega.{arith}
use mathlib.Core.Bool.{Bool, true, false, cond, ◌&&◌}
use mathlib.Core.List.{List, [], ◌∷◌}
use Rattle.dates.proofs.Small.{Small, SmallDate, SmallTime, SmallPart, SmallDuration}
use Rattle.expressions.proofs.Small.{SmallExpr}
use Rattle.phrase.proofs.Small.{SmallTree}
use Rattle.steps.proofs.Small.{SmallStart, SmallStep, All, none, more, all_smaller, small_add}
use Rattle.dates.specs.Durations.{Duration, part, concat, size, is_sub_daily_unit}
use Rattle.dates.specs.declared.date.Date.{Date}
use Rattle.dates.specs.declared.date.Date.TheVariants.{Today}
use Rattle.dates.specs.declared.duration.Part.{Part}
use Rattle.dates.specs.declared.duration.Part.TheVariants.{Article, Specific}
use Rattle.dates.specs.declared.time.Time.{Time}
use Rattle.dates.specs.declared.units.RelativeSpecifier.{RelativeSpecifier}
use Rattle.dates.specs.declared.units.RelativeSpecifier.TheVariants.{This, Next, Last}
use Rattle.dates.specs.declared.units.Unit.{Unit as OfTime}
use Rattle.dates.specs.declared.units.Unit.TheVariants.{Day, Week, Hour, Minute, Month, Year}
use Rattle.expressions.specs.Shapes.{size_expr}
use Rattle.expressions.specs.Tree.{DateExpr, date, date_relative, date_expression_after, date_expression_before, unit_relative}
use Rattle.expressions.specs.Tree.{relative_weekday, weekday_relative, weekday_expression_before, weekday_expression_after, before, after, weekday, empty}
use Rattle.phrase.specs.Chains.{size_tree}
use Rattle.phrase.specs.Tree.{DateTime, date_time, time_date, duration_after, duration_before, now}
use Rattle.evaluation.specs.Evaluate.{is_year, is_week, is_month_and_day}
use Rattle.steps.specs.Joining.{add_step}
use Rattle.steps.specs.declared.plan.Start.{Start}
use Rattle.steps.specs.declared.plan.Start.TheVariants.{Now, Senseless, OnDate, InWeek, FromToday}
use Rattle.steps.specs.declared.plan.Step.{Step}
use Rattle.steps.specs.declared.plan.Step.TheVariants.{From, By, AtTime}
use Rattle.ready.specs.Bounds.{widest}
use Rattle.ready.specs.Made.{length_move, move_of_part, add_duration, add_year, add_unit, expr_steps, tree_steps, listed, steps_of}

-- small steps, none with more minutes than n parts have
pub record Parts (n : ℕ) (ss : List Step) : Type 0 where
  pub all : All (SmallStep (n * widest)) ss

-- a start
alone : {n : ℕ} (s : Start) → SmallStart s → Parts n (From s ∷ [])
alone s h = record { all = more {s = From s} (record { numbers = h; minutes = omega arith }) none }

-- the same with more parts
wider : {n k : ℕ} {ss : List Step} → n ≤ k → Parts n ss → Parts k ss
wider le hs = record { all = all_smaller (omega arith) hs.all }

-- one part more
one_more : {n : ℕ} {ss : List Step} {s : Step} → Parts n ss → SmallStep widest s → Parts (n + 1) (add_step ss s)
one_more hs h = record { all = all_smaller (omega arith) (small_add hs.all h) }

length-small : (back : Bool) (k : ℕ) (u : OfTime) → Small k → SmallStep widest (By (length_move back k u))
length-small back k Day h = record { numbers = tt; minutes = omega arith }
length-small back k Week h = record { numbers = tt; minutes = omega arith }
length-small back k Hour h = record { numbers = tt; minutes = omega arith }
length-small back k Minute h = record { numbers = tt; minutes = omega arith }
length-small back k Month h = record { numbers = h; minutes = omega arith }
length-small back k Year h = record { numbers = h; minutes = omega arith }

part_small : (back : Bool) (p : Part) → SmallPart p → SmallStep widest (By (move_of_part back p))
part_small back (Article u) h = length-small back 1 u (omega arith)
part_small back (Specific u k) h = length-small back k u h

duration_parts :
    {n : ℕ} {ss : List Step} (back : Bool) (d : Duration) → SmallDuration d → Parts n ss →
    Parts (n + size d) (add_duration listed back ss d)
duration_parts back (part p) h hs = one_more hs (part_small back p h)
duration_parts {n = n} {ss = ss} back (concat p d) h hs =
    wider (omega arith) (duration_parts {n = n + 1} {ss = add_step ss (By (move_of_part back p))} back d h.1 (one_more hs (part_small back p h.0)))

-- a date rule, and a duration from it
on_date : (d : Date) → SmallDate d → Parts 0 (From (OnDate d) ∷ [])
on_date d h = alone (OnDate d) h

date_parts :
    (d : Date) (back : Bool) (dur : Duration) → SmallDate d × SmallDuration dur →
    Parts (0 + size dur) (add_duration listed back (From (OnDate d) ∷ []) dur)
date_parts d back dur h = duration_parts back dur h.1 (on_date d h.0)

year_parts : (s : RelativeSpecifier) (d : Date) → SmallDate d → Parts 1 (add_year listed s (From (OnDate d) ∷ []))
year_parts This d h = wider (omega arith) (on_date d h)
year_parts Next d h = one_more (on_date d h) (record { numbers = omega arith; minutes = omega arith })
year_parts Last d h = one_more (on_date d h) (record { numbers = omega arith; minutes = omega arith })

unit_parts : (s : RelativeSpecifier) (u : OfTime) → Parts 1 (add_unit listed s u)
unit_parts This u = alone Senseless tt
unit_parts Next u = one_more (on_date Today tt) (length-small false 1 u (omega arith))
unit_parts Last u = one_more (on_date Today tt) (length-small true 1 u (omega arith))

-- of two by a test
by_test : (b : Bool) {n : ℕ} {ss us : List Step} → Parts n ss → Parts n us → Parts n (cond b ss us)
by_test true g h = g
by_test false g h = h

-- the steps of a date expression
expr_parts : (e : DateExpr) → SmallExpr e → Parts (1 + size_expr e) (expr_steps listed e)
unfolding expr_steps
expr_parts (date d) h = alone (OnDate d) h
expr_parts (date_relative d s u) h = by_test (is_year u && is_month_and_day d) (year_parts s d h) (alone Senseless tt)
expr_parts (weekday_expression_before w dur) h =
    wider (omega arith) (one_more (date_parts Today true dur (tt, h.1)) (record { numbers = h.0; minutes = omega arith }))
expr_parts (weekday_expression_after w dur) h =
    wider (omega arith) (one_more (date_parts Today false dur (tt, h.1)) (record { numbers = h.0; minutes = omega arith }))
expr_parts (date_expression_after d dur) h = wider (omega arith) (date_parts d false dur h)
expr_parts (date_expression_before d dur) h = wider (omega arith) (date_parts d true dur h)
expr_parts (before dur d) h = wider (omega arith) (date_parts d true dur h)
expr_parts (after dur d) h = wider (omega arith) (date_parts d false dur h)
expr_parts (unit_relative s u) h = by_test (is_sub_daily_unit u) (alone Senseless tt) (unit_parts s u)
expr_parts (relative_weekday s w) h = alone (InWeek s w) h
expr_parts (weekday_relative w s u) h =
    by_test (is_week u) (alone (InWeek s w) h) (alone Senseless tt)
expr_parts (weekday w) h = alone (FromToday w) h
expr_parts empty h = alone (OnDate Today) tt

dated_parts : (e : DateExpr) (t : Time) → SmallExpr e × SmallTime t → Parts (2 + size_expr e) (add_step (expr_steps listed e) (AtTime t))
dated_parts e t h = wider (omega arith) (one_more (expr_parts e h.0) (record { numbers = h.1; minutes = omega arith }))

-- the steps of a whole phrase
pub tree_parts : (x : DateTime) → SmallTree x → Parts (2 + size_tree x) (steps_of x)
unfolding tree_steps
tree_parts now h = alone Now tt
tree_parts (date_time e t) h = dated_parts e t h
tree_parts (time_date t e) h = dated_parts e t h
tree_parts (duration_after dur x) h = wider (omega arith) (duration_parts false dur h.0 (tree_parts x h.1))
tree_parts (duration_before dur x) h = wider (omega arith) (duration_parts true dur h.0 (tree_parts x h.1))
