-- What running any list leads to, at any now: a moment of the calendar, or a refusal of 8 to 13.
use Prim.Native.Nat.{◌%◌}
use native.Mathlib.Omega.{arith}
use mathlib.Core.Path.{◌≡◌, refl}
use mathlib.Core.Logic.{inl}
use mathlib.Core.Bool.{Bool, true, false, cond}
use mathlib.Core.List.{List, [], ◌∷◌}
use Rattle.refusals.specs.declared.Reason.TheVariants.{NoSense}
use Rattle.calendar.specs.Moments.{IsMoment, refused, is_moment}
use Rattle.calendar.specs.declared.moments.Moment.{Moment}
use Rattle.calendar.proofs.Valid.{test_moment}
use Rattle.refusals.specs.declared.Reason.TheVariants.{InvalidMoment, NoSense}
use Rattle.refusals.specs.Answers.{refusal_at}
use Rattle.refusals.proofs.Holds.{Holds, of_refusal, Bounded}
use Rattle.answer.specs.Answer.{placed}
use Rattle.answer.proofs.PhraseAtNow.{placed_holds, lowered}
use Rattle.answer.proofs.Leads.{Leads, leads, refuses, behind, minutes_lead, months_lead, years_lead, kept_moment}
use Rattle.answer.proofs.Leads.{date_leads, on_day_leads, days_back_lead, week_leads, time_leads}
use Rattle.steps.specs.Running.{start_at, move_by, act_of, walk_of, is_list, run_of}
use Rattle.steps.proofs.Offsets.{run_walks}
use Rattle.steps.specs.declared.plan.Start.{Start}
use Rattle.steps.specs.declared.plan.Start.TheVariants.{Now, Senseless, OnDate, InWeek, FromToday}
use Rattle.steps.specs.declared.plan.Move.{Move}
use Rattle.steps.specs.declared.plan.Move.TheVariants.{Minutes, Months, Years, BackTo, ForwardTo}
use Rattle.steps.specs.declared.plan.Step.{Step}
use Rattle.steps.specs.declared.plan.Step.TheVariants.{From, By, AtTime}

start-leads : (s : Start) (t : Moment) → IsMoment t → Leads IsMoment (start_at s t)
start-leads Now t v = leads v
start-leads Senseless t v = refuses {k = NoSense} refl
start-leads (OnDate d) t v = date_leads t v d
start-leads (InWeek s d) t v = week_leads t v s (d % 7)
start-leads (FromToday d) t v = on_day_leads t v _

move-leads : (m : Move) (t : Moment) → IsMoment t → Leads IsMoment (move_by m t)
move-leads (Minutes back k) t v = minutes_lead kept_moment back k t v (inl refl)
move-leads (Months back k) t v = months_lead kept_moment back k t v
move-leads (Years back k) t v = years_lead kept_moment back k t v
move-leads (BackTo d) t v = days_back_lead t v _ _
move-leads (ForwardTo d) t v = on_day_leads t v _

pub act_leads : (s : Step) (n t : Moment) → IsMoment n → IsMoment t → Leads IsMoment (act_of s n t)
act_leads (From s) n t w v = start-leads s t v
act_leads (By m) n t w v = move-leads m t v
act_leads (AtTime x) n t w v = time_leads x n t w v

pub walk_leads : (ss : List Step) (n t : Moment) → IsMoment n → IsMoment t → Leads IsMoment (walk_of ss n t)
walk_leads [] n t w v = leads v
walk_leads (s ∷ ss) n t w v = behind (walk_of ss n) (act_leads s n t w v) (λ u h. walk_leads ss n u w h)

pub run_settled : (ss : List Step) (n : Moment) → Holds IsMoment (Bounded 8 13 0) (placed (run_of ss n))
run_settled ss n = rw (run_walks ss n) (go (is_moment n) (is_list ss) refl)
  where
    go : (b c : Bool) → is_moment n ≡ b → Holds IsMoment (Bounded 8 13 0) (placed (cond b (cond c (walk_of ss n n) (refused NoSense)) (refused InvalidMoment)))
    go true true e = lowered (omega arith) (placed_holds (walk_leads ss n n (test_moment n e) (test_moment n e)))
    go true false e = of_refusal {r = refusal_at NoSense 0 0} (omega arith)
    go false c e = of_refusal {r = refusal_at InvalidMoment 0 0} (omega arith)
