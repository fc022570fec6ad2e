-- What every list that is made has: few steps, neighbours apart, and the form that running asks for; and the plan that holds it.
use Prim.Native.Nat.{ℕ, suc, ◌+◌, ◌≤◌, ◌<◌}
use native.Mathlib.Omega.{arith}
use mathlib.Core.Path.{◌≡◌, refl, ap, ◌∙◌}
use mathlib.Core.Bool.{Bool, true, false, cond, ◌&&◌}
use mathlib.Core.List.{List, [], ◌∷◌}
use lib.ListN.{length}
use Rattle.dates.specs.Durations.{Duration, part, concat, size, is_sub_daily_unit}
use Rattle.dates.specs.declared.date.Date.{Date}
use Rattle.dates.specs.declared.date.Date.TheVariants.{Today}
use Rattle.dates.specs.declared.time.Time.{Time}
use Rattle.dates.specs.declared.units.RelativeSpecifier.{RelativeSpecifier}
use Rattle.dates.specs.declared.units.RelativeSpecifier.TheVariants.{This, Next, Last}
use Rattle.dates.specs.declared.units.Unit.{Unit}
use Rattle.expressions.specs.Shapes.{size_expr}
use Rattle.expressions.specs.Tree.{DateExpr, date, date_relative, date_expression_after, date_expression_before, unit_relative}
use Rattle.expressions.specs.Tree.{relative_weekday, weekday_relative, weekday_expression_before, weekday_expression_after, before, after, weekday, empty}
use Rattle.phrase.specs.Chains.{size_tree}
use Rattle.phrase.specs.Tree.{DateTime, date_time, time_date, duration_after, duration_before, now}
use Rattle.evaluation.specs.Evaluate.{is_year, is_week, is_month_and_day}
use Rattle.steps.specs.Joining.{add_step, all_apart}
use Rattle.steps.specs.Plans.{plan_of, begun, add_to}
use Rattle.steps.specs.Running.{times_from, is_formed}
use Rattle.steps.specs.declared.plan.Plan.{Plan}
use Rattle.steps.specs.declared.plan.Start.{Start}
use Rattle.steps.specs.declared.plan.Start.TheVariants.{Now, Senseless, OnDate, InWeek, FromToday}
use Rattle.steps.specs.declared.plan.Move.{Move}
use Rattle.steps.specs.declared.plan.Move.TheVariants.{Years, BackTo, ForwardTo}
use Rattle.steps.specs.declared.plan.Step.{Step}
use Rattle.steps.specs.declared.plan.Step.TheVariants.{From, By, AtTime}
use Rattle.steps.proofs.Joined.{length-add, apart_add}
use Rattle.steps.proofs.Planned.{added}
use Rattle.ready.specs.Made.{length_move, move_of_part, add_duration, add_year, add_unit, expr_steps, tree_steps, listed, held, steps_of}
use Rattle.ready.proofs.Forms.{Plain, Open, senseless, dated, open_add, open_time, formed_add}

-- at most k steps of form F, with neighbours apart, and p holds them
record Kept (F : List Step → Type 0) (k : ℕ) (p : Plan) (ss : List Step) : Type 0 where
  some : 0 < length ss
  most : length ss ≤ k
  apart : all_apart ss ≡ true
  form : F ss
  holds : k ≤ 24 → p ≡ plan_of ss

-- the form that running asks for
abbrev pub Formed : List Step → Type 0
Formed ss = is_formed ss ≡ true

held_add : (p : Plan) (ss : List Step) (s : Step) → p ≡ plan_of ss → 0 < length ss → length ss < 24 → add_to p s ≡ plan_of (add_step ss s)
held_add p [] s e some most = absurd (omega arith)
held_add p (x ∷ xs) s e some most = ap (λ (q : Plan). add_to q s) e ∙ added x xs s (omega arith)

-- one step more; G is the form that the list then has
kept_add :
    {F G : List Step → Type 0} {k : ℕ} {p : Plan} {ss : List Step} → Kept F k p ss → (s : Step) → G (add_step ss s) →
    Kept G (suc k) (add_to p s) (add_step ss s)
kept_add {p = p} {ss} h s form =
    record {
      some = (length-add ss s).0;
      most = omega (arith, (length-add ss s).1, h.most);
      apart = apart_add ss s h.apart;
      form = form;
      holds = λ few. held_add p ss s (h.holds (omega arith)) h.some (omega (arith, h.most));
    }

-- a bound may be wider
wider :
    {F : List Step → Type 0} {k j : ℕ} {p : Plan} {ss : List Step} → Kept F k p ss → k ≤ j → Kept F j p ss
wider h le =
    record { some = h.some; most = omega (arith, h.most); apart = h.apart; form = h.form; holds = λ few. h.holds (omega arith) }

-- a start alone
single : {F : List Step → Type 0} (s : Start) → F (From s ∷ []) → Kept F 1 (begun s) (From s ∷ [])
unfolding plan_of
single s form = record { some = omega arith; most = omega arith; apart = refl; form = form; holds = λ few. refl }

-- a move is neither a start nor a time step
pub move_plain : (m : Move) → Plain (By m)
move_plain m = record { no_start = refl; no_time = refl }

-- a duration more, for a form that plain steps keep
module _ {F : List Step → Type 0} (keeps : (ss : List Step) (s : Step) → Plain s → F ss → F (add_step ss s)) where
  kept_duration :
      {k : ℕ} (p : Plan) (ss : List Step) (back : Bool) (d : Duration) → Kept F k p ss →
      Kept F (k + size d) (add_duration held back p d) (add_duration listed back ss d)
  kept_duration p ss back (part x) h =
      let m = move_of_part back x in
      wider (kept_add {G = F} h (By m) (keeps ss (By m) (move_plain m) h.form)) (omega arith)
  kept_duration p ss back (concat x d) h =
      let m = move_of_part back x in
      wider (kept_duration (add_to p (By m)) (add_step ss (By m)) back d (kept_add {G = F} h (By m) (keeps ss (By m) (move_plain m) h.form)))
      (omega arith)

-- a dated start
start_open : (s : Start) → times_from s ≡ 1 → Kept Open 1 (begun s) (From s ∷ [])
start_open s due = single s (dated {x = From s} {ss = []} (record { start = refl; due = due; no_starts = refl; no_times = refl }))

open_keeps : (ss : List Step) (s : Step) → Plain s → Open ss → Open (add_step ss s)
open_keeps ss s p h = open_add h s p

-- one move more
open_more : {k : ℕ} {p : Plan} {ss : List Step} → Kept Open k p ss → (m : Move) → Kept Open (suc k) (add_to p (By m)) (add_step ss (By m))
open_more h m = kept_add {G = Open} h (By m) (open_add h.form (By m) (move_plain m))

-- a date rule, and a duration from it
date_open :
    (d : Date) (back : Bool) (dur : Duration) →
    Kept Open (1 + size dur) (add_duration held back (begun (OnDate d)) dur) (add_duration listed back (From (OnDate d) ∷ []) dur)
date_open d back dur = kept_duration open_keeps (begun (OnDate d)) (From (OnDate d) ∷ []) back dur (start_open (OnDate d) refl)

-- a refusal
none_open : Kept Open 2 (begun Senseless) (From Senseless ∷ [])
none_open = wider (single Senseless senseless) (omega arith)

year_open : (s : RelativeSpecifier) (d : Date) → Kept Open 2 (add_year held s (begun (OnDate d))) (add_year listed s (From (OnDate d) ∷ []))
year_open This d = wider (start_open (OnDate d) refl) (omega arith)
year_open Next d = open_more (start_open (OnDate d) refl) (Years false 1)
year_open Last d = open_more (start_open (OnDate d) refl) (Years true 1)

unit_open : (s : RelativeSpecifier) (u : Unit) → Kept Open 2 (add_unit held s u) (add_unit listed s u)
unit_open This u = none_open
unit_open Next u = open_more (start_open (OnDate Today) refl) (length_move false 1 u)
unit_open Last u = open_more (start_open (OnDate Today) refl) (length_move true 1 u)

-- of two by a test
by_test :
    (b : Bool) {k : ℕ} (p q : Plan) (ss us : List Step) → Kept Open k p ss → Kept Open k q us → Kept Open k (cond b p q) (cond b ss us)
by_test true p q ss us g h = g
by_test false p q ss us g h = h

-- the steps of a date expression
expr_kept : (e : DateExpr) → Kept Open (2 + size_expr e) (expr_steps held e) (expr_steps listed e)
unfolding expr_steps
expr_kept (date d) = wider (start_open (OnDate d) refl) (omega arith)
expr_kept (date_relative d s u) = by_test (is_year u && is_month_and_day d) _ _ _ _ (year_open s d) none_open
expr_kept (weekday_expression_before w dur) =
    wider (open_more (date_open Today true dur) (BackTo w)) (omega arith)
expr_kept (weekday_expression_after w dur) =
    wider (open_more (date_open Today false dur) (ForwardTo w)) (omega arith)
expr_kept (date_expression_after d dur) = wider (date_open d false dur) (omega arith)
expr_kept (date_expression_before d dur) = wider (date_open d true dur) (omega arith)
expr_kept (before dur d) = wider (date_open d true dur) (omega arith)
expr_kept (after dur d) = wider (date_open d false dur) (omega arith)
expr_kept (unit_relative s u) = by_test (is_sub_daily_unit u) _ _ _ _ none_open (unit_open s u)
expr_kept (relative_weekday s w) = wider (start_open (InWeek s w) refl) (omega arith)
expr_kept (weekday_relative w s u) = by_test (is_week u) _ _ _ _ (wider (start_open (InWeek s w) refl) (omega arith)) none_open
expr_kept (weekday w) = wider (start_open (FromToday w) refl) (omega arith)
expr_kept empty = wider (start_open (OnDate Today) refl) (omega arith)

pub expr_open : (e : DateExpr) → Open (expr_steps listed e)
expr_open e = (expr_kept e).form

-- with its time of day
dated_kept : (e : DateExpr) (t : Time) → Kept Formed (3 + size_expr e) (add_to (expr_steps held e) (AtTime t)) (add_step (expr_steps listed e) (AtTime t))
dated_kept e t = let h = expr_kept e in wider (kept_add {G = Formed} h (AtTime t) (open_time h.form t)) (omega arith)

-- the steps of a whole phrase
tree_kept : (x : DateTime) → Kept Formed (3 + size_tree x) (tree_steps held x) (steps_of x)
unfolding tree_steps
tree_kept now = wider (single Now refl) (omega arith)
tree_kept (date_time e t) = dated_kept e t
tree_kept (time_date t e) = dated_kept e t
tree_kept (duration_after dur x) = wider (kept_duration formed_add (tree_steps held x) (steps_of x) false dur (tree_kept x)) (omega arith)
tree_kept (duration_before dur x) = wider (kept_duration formed_add (tree_steps held x) (steps_of x) true dur (tree_kept x)) (omega arith)

-- at most 24 steps
pub at_most_24 : (x : DateTime) → size_tree x ≤ 21 → length (steps_of x) ≤ 24
at_most_24 x few = omega (arith, (tree_kept x).most)

-- no two fixed lengths of one direction side by side
pub neighbours_apart : (x : DateTime) → all_apart (steps_of x) ≡ true
neighbours_apart x = (tree_kept x).apart

-- every list that is made has the form that running asks for
pub made_formed : (x : DateTime) → is_formed (steps_of x) ≡ true
made_formed x = (tree_kept x).form

-- the code's struct holds the steps of the reading
pub planned : (x : DateTime) → size_tree x ≤ 21 → tree_steps held x ≡ plan_of (steps_of x)
planned x few = (tree_kept x).holds (omega arith)
