-- Lists of steps, by one induction.
use mathlib.Core.Path.{◌≡◌}
use mathlib.Core.List.{List, [], ◌∷◌}
use Rattle.refusals.specs.Answers.{given}
use Rattle.calendar.specs.Moments.{IsMoment, is_moment, Outcome, moment, refused}
use Rattle.calendar.specs.declared.moments.Moment.{Moment}
use Rattle.calendar.proofs.Valid.{test_moment}
use Rattle.answer.specs.Answer.{placed}
use Rattle.steps.specs.Running.{walk_of, is_list, run_of}
use Rattle.steps.specs.declared.plan.Step.{Step}
use Rattle.steps.proofs.Offsets.{run_walks}
use Rattle.ready.proofs.Settles.{act_leads}
use Rattle.later.specs.Nows.{SameTime, NeverBack}
use Rattle.later.proofs.InOrder.{InOrder, in_order, not_after}
use Rattle.later.proofs.Outcomes.{Kept, both, tested, then_kept}
use Rattle.later.proofs.Steps.{act_kept}

-- the steps of a list, from moments in order, at nows with the same time of day
module _ {n k : Moment} (now : IsMoment n) (later : IsMoment k) (same : SameTime n k) where
  walk_kept : (ss : List Step) {t u : Moment} → IsMoment t → IsMoment u → InOrder t u → Kept (walk_of ss n t) (walk_of ss k u)
  walk_kept [] v w a = both a
  walk_kept (s ∷ ss) {t} {u} v w a =
      then_kept (walk_of ss n) (walk_of ss k) (act_leads s n t now v) (act_leads s k u later w) (act_kept v w a same s)
      (λ x y p q b. walk_kept ss p q b)

-- a list that is run, of whatever form
run_kept : (ss : List Step) {n k : Moment} → InOrder n k → Kept (run_of ss n) (run_of ss k)
run_kept ss {n} {k} a =
    rw (run_walks ss n, run_walks ss k)
    (tested (is_moment n) (is_moment k) _ _ _
    (λ e f.
    let v = test_moment n e in
    let w = test_moment k f in
    tested (is_list ss) (is_list ss) _ _ _ (λ _ _. walk_kept v w a.time ss v w a)))

-- what is given is a moment
given_moment : (o : Outcome) {t : Moment} → placed o ≡ given t → o ≡ moment t
given_moment (moment x) e = cc
given_moment (refused k) e = cc

-- a list of steps never goes back at a later now
pub steps_never_back : (ss : List Step) → NeverBack (λ n. placed (run_of ss n))
steps_never_back ss =
    record {
      never_back =
          λ n m same order e f.
          not_after ((run_kept ss (in_order same order)).kept _ _ (given_moment (run_of ss n) e) (given_moment (run_of ss m) f));
    }
