-- Demand 3, said once: in every lawful world, the steps of a reading lead where the reading leads, from every now that is good.
use Prim.Native.Nat.{ℕ}
use mathlib.Core.Path.{◌≡◌, refl, ap, ◌∙◌}
use mathlib.Core.Bool.{Bool, true, false, cond, ◌&&◌}
use mathlib.Core.List.{List, [], ◌∷◌}
use Rattle.calendar.specs.Moments.{Reach, and_then, Outcome, years_step}
use Rattle.calendar.specs.declared.moments.Moment.{Moment}
use Rattle.dates.specs.Durations.{Duration, part, concat, is_sub_daily_unit}
use Rattle.dates.specs.declared.date.Date.{Date}
use Rattle.dates.specs.declared.date.Date.TheVariants.{Today}
use Rattle.dates.specs.declared.duration.Part.{Part}
use Rattle.dates.specs.declared.duration.Part.TheVariants.{Article, Specific}
use Rattle.dates.specs.declared.time.Time.{Time}
use Rattle.dates.specs.declared.units.RelativeSpecifier.{RelativeSpecifier}
use Rattle.dates.specs.declared.units.RelativeSpecifier.TheVariants.{This, Next, Last}
use Rattle.dates.specs.declared.units.Unit.{Unit}
use Rattle.dates.specs.declared.units.Unit.TheVariants.{Day, Week, Hour, Minute, Month, Year}
use Rattle.expressions.specs.Tree.{DateExpr, date, date_relative, date_expression_after, date_expression_before, unit_relative}
use Rattle.expressions.specs.Tree.{relative_weekday, weekday_relative, weekday_expression_before, weekday_expression_after, before, after, weekday, empty}
use Rattle.phrase.specs.Tree.{DateTime, date_time, time_date, duration_after, duration_before, now}
use Rattle.evaluation.specs.Worlds.{World, offset, Lawful}
use Rattle.evaluation.specs.Steps.{unit_in, part_in, duration_in, unit_step, duration_step}
use Rattle.evaluation.specs.Dates.{date_at}
use Rattle.evaluation.specs.Times.{time_at}
use Rattle.evaluation.specs.Evaluate.{is_year, is_week, is_month_and_day, by_year, by_unit, date_expr_at, evaluate_in}
use Rattle.calendar.proofs.Outcomes.{then_same, then_moment, then_assoc}
use Rattle.steps.specs.Joining.{add_step}
use Rattle.steps.specs.Running.{start_at, move_by, walk_of, move_in, lead_in}
use Rattle.steps.specs.declared.plan.Start.{Start}
use Rattle.steps.specs.declared.plan.Start.TheVariants.{Senseless, OnDate, InWeek}
use Rattle.steps.specs.declared.plan.Move.{Move}
use Rattle.steps.specs.declared.plan.Move.TheVariants.{Years, BackTo, ForwardTo}
use Rattle.steps.specs.declared.plan.Step.{Step}
use Rattle.steps.specs.declared.plan.Step.TheVariants.{From, By, AtTime}
use Rattle.steps.proofs.Joined.{walk_add}
use Rattle.steps.proofs.Offsets.{Any, offset_lawful}
use Rattle.ready.specs.Made.{length_move, move_of_part, add_duration, add_year, add_unit, weekday_steps, expr_steps, tree_steps, listed, steps_of}
use Rattle.ready.proofs.Forms.{formed_add}
use Rattle.ready.proofs.Made.{Formed, move_plain, expr_open, made_formed}
use Rattle.ready.proofs.Worlds.{lead_time, lead_move}

-- a unit's move does what the unit's length does
length-moves : {S : Type 0} (w : World S) (back : Bool) (k : ℕ) (u : Unit) (x : S) → move_in w (length_move back k u) x ≡ unit_in w back k u x
length-moves w back k Day x = refl
length-moves w back k Week x = refl
length-moves w back k Hour x = refl
length-moves w back k Minute x = refl
length-moves w back k Month x = refl
length-moves w back k Year x = refl

part_moves : {S : Type 0} (w : World S) (back : Bool) (p : Part) (x : S) → move_in w (move_of_part back p) x ≡ part_in w back p x
part_moves w back (Article u) x = length-moves w back 1 u x
part_moves w back (Specific u k) x = length-moves w back k u x

-- wherever one move more is a move from where the list leads, for lists of a form that moves keep
module _ {S : Type 0} (w : World S) (Form : List Step → Type 0) (led : List Step → Reach S)
    (keeps : (ss : List Step) (m : Move) → Form ss → Form (add_step ss (By m)))
    (led_move : (ss : List Step) (m : Move) → Form ss → led (add_step ss (By m)) ≡ and_then (led ss) (move_in w m)) where
  -- a part
  then_part : (back : Bool) (ss : List Step) (p : Part) → Form ss → led (add_step ss (By (move_of_part back p))) ≡ and_then (led ss) (part_in w back p)
  then_part back ss p h =
      led_move ss (move_of_part back p) h ∙ then_same (led ss) (move_in w (move_of_part back p)) (part_in w back p) (λ x _. part_moves w back p x)

  -- and so a duration's steps are the duration from there
  then_duration :
      (back : Bool) (ss : List Step) (d : Duration) → Form ss → led (add_duration listed back ss d) ≡ and_then (led ss) (duration_in w back d)
  then_duration back ss (part p) h = then_part back ss p h
  then_duration back ss (concat p d) h =
      then_duration back (add_step ss (By (move_of_part back p))) d (keeps ss (move_of_part back p) h)
      ∙ ap (λ (o : Reach S). and_then o (duration_in w back d)) (then_part back ss p h)
      ∙ then_assoc (led ss) (part_in w back p) (duration_in w back d)

-- On civil date and time alone, from t: where a list leads, whatever its form.
module _ (t : Moment) where
  abbrev led : List Step → Outcome
  led ss = walk_of ss t t

  led_move : (ss : List Step) (m : Move) → led (add_step ss (By m)) ≡ and_then (led ss) (move_by m)
  led_move ss m = walk_add offset Any offset_lawful ss (By m) t t tt

  -- a start, and a duration from it
  started : (back : Bool) (s : Start) (d : Duration) → led (add_duration listed back (From s ∷ []) d) ≡ and_then (start_at s t) (duration_step back d)
  started back s d =
      then_duration offset (λ ss. Any t) led (λ ss m h. tt) (λ ss m h. led_move ss m) back (From s ∷ []) d tt
      ∙ ap (λ (o : Outcome). and_then o (duration_step back d)) (then_moment (start_at s t))

  -- a date, and a year from it
  year_from : (back : Bool) (d : Date) → led (add_step (From (OnDate d) ∷ []) (By (Years back 1))) ≡ and_then (date_at d t) (years_step back 1)
  year_from back d =
      led_move (From (OnDate d) ∷ []) (Years back 1) ∙ ap (λ (o : Outcome). and_then o (years_step back 1)) (then_moment (date_at d t))

  by_year_lem : (s : RelativeSpecifier) (d : Date) → led (add_year listed s (From (OnDate d) ∷ [])) ≡ and_then (date_at d t) (by_year s)
  by_year_lem This d = refl
  by_year_lem Next d = year_from false d
  by_year_lem Last d = year_from true d

  -- one unit from today
  unit_from : (back : Bool) (u : Unit) → led (add_step (From (OnDate Today) ∷ []) (By (length_move back 1 u))) ≡ unit_step back 1 u t
  unit_from back u = led_move (From (OnDate Today) ∷ []) (length_move back 1 u) ∙ length-moves offset back 1 u t

  by_unit_lem : (s : RelativeSpecifier) (u : Unit) → led (add_unit listed s u) ≡ by_unit s u t
  by_unit_lem This u = refl
  by_unit_lem Next u = unit_from false u
  by_unit_lem Last u = unit_from true u

  -- of two lists by a test, each leads where it is to
  by_test : (b : Bool) (xs ys : List Step) {o p : Outcome} → led xs ≡ o → led ys ≡ p → led (cond b xs ys) ≡ cond b o p
  by_test true xs ys e f = e
  by_test false xs ys e f = f

  -- today, a duration from it, and the step to a weekday
  to_weekday : (back : Bool) (dur : Duration) (to : Move) → led (weekday_steps listed back dur to) ≡ and_then (duration_step back dur t) (move_by to)
  to_weekday back dur to =
      led_move (add_duration listed back (From (OnDate Today) ∷ []) dur) to
      ∙ ap (λ (o : Outcome). and_then o (move_by to)) (started back (OnDate Today) dur)

  -- the steps of a date expression
  expr_runs : (e : DateExpr) → led (expr_steps listed e) ≡ date_expr_at e t
  unfolding expr_steps
  expr_runs (date d) = then_moment (date_at d t)
  expr_runs (date_relative d s u) = by_test (is_year u && is_month_and_day d) (add_year listed s (From (OnDate d) ∷ [])) (From Senseless ∷ []) (by_year_lem s d) refl
  expr_runs (weekday_expression_before w dur) = to_weekday true dur (BackTo w)
  expr_runs (weekday_expression_after w dur) = to_weekday false dur (ForwardTo w)
  expr_runs (date_expression_after d dur) = started false (OnDate d) dur
  expr_runs (date_expression_before d dur) = started true (OnDate d) dur
  expr_runs (before dur d) = started true (OnDate d) dur
  expr_runs (after dur d) = started false (OnDate d) dur
  expr_runs (unit_relative s u) = by_test (is_sub_daily_unit u) (From Senseless ∷ []) (add_unit listed s u) refl (by_unit_lem s u)
  expr_runs (relative_weekday s w) = then_moment _
  expr_runs (weekday_relative w s u) = by_test (is_week u) (From (InWeek s w) ∷ []) (From Senseless ∷ []) (then_moment _) refl
  expr_runs (weekday w) = then_moment _
  expr_runs empty = refl

module _ {S : Type 0} (w : World S) (Good : S → Type 0) (lawful : Lawful w Good) (n : S) (good : Good n) where
  -- a date expression and a time of day
  dated : (e : DateExpr) (t : Time) → lead_in w (add_step (expr_steps listed e) (AtTime t)) n ≡ w.settle (and_then (date_expr_at e (w.civil n)) (time_at t (w.civil n)))
  dated e t =
      lead_time w Good lawful n (expr_open e) t ∙ ap (λ (o : Outcome). w.settle (and_then o (time_at t (w.civil n)))) (expr_runs (w.civil n) e)

  -- a duration behind what has its form
  around : (back : Bool) (x : DateTime) (d : Duration) → lead_in w (add_duration listed back (steps_of x) d) n ≡ and_then (lead_in w (steps_of x) n) (duration_in w back d)
  around back x d =
      then_duration w Formed (λ ss. lead_in w ss n) (λ ss m h. formed_add ss (By m) (move_plain m) h) (lead_move w Good lawful n good)
      back (steps_of x) d (made_formed x)

  -- the steps of a whole phrase
  pub tree_runs : (x : DateTime) → lead_in w (steps_of x) n ≡ evaluate_in w x n
  unfolding tree_steps evaluate_in
  tree_runs now = refl
  tree_runs (date_time e t) = dated e t
  tree_runs (time_date t e) = dated e t
  tree_runs (duration_after dur x) = around false x dur ∙ ap (λ (o : Reach S). and_then o (duration_in w false dur)) (tree_runs x)
  tree_runs (duration_before dur x) = around true x dur ∙ ap (λ (o : Reach S). and_then o (duration_in w true dur)) (tree_runs x)
