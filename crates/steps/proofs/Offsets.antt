-- The fixed offset as a world: it is lawful, and a list of steps acts there in order, ahead of the time of day as behind it.
use mathlib.Core.Path.{◌≡◌, refl}
use mathlib.Core.Bool.{Bool, true, false, cond}
use mathlib.Core.List.{List, [], ◌∷◌}
use Rattle.calendar.specs.Moments.{refused, is_moment}
use Rattle.calendar.specs.declared.moments.Moment.{Moment}
use Rattle.calendar.proofs.Outcomes.{then_same}
use Rattle.calendar.proofs.Steps.{minutes_twice}
use Rattle.evaluation.specs.Worlds.{offset, Lawful}
use Rattle.refusals.specs.declared.Reason.TheVariants as refusal
use Rattle.steps.specs.Running.{start_at, move_by, walk_of, is_list, is_dated, ahead_in, lead_in, run_in, run_of}
use Rattle.steps.specs.declared.plan.Step.{Step}
use Rattle.steps.specs.declared.plan.Step.TheVariants.{From, By, AtTime}

-- every moment is good
abbrev pub Any : Moment → Type 0
Any t = Unit

pub offset_lawful : Lawful offset Any
offset_lawful = record {
  refusal_stays = λ k. refl;
  settle_good = λ o x e. tt;
  fixed_good = λ back k x y g e. tt;
  joins = λ back a b x g. minutes_twice back a b x;
}

-- the steps ahead of the time of day
ahead_walks : (ss : List Step) (n t : Moment) → ahead_in offset ss n t ≡ walk_of ss n t
ahead_walks [] n t = refl
ahead_walks (From s ∷ ss) n t = then_same (start_at s t) (ahead_in offset ss n) (walk_of ss n) (λ u _. ahead_walks ss n u)
ahead_walks (By m ∷ ss) n t = then_same (move_by m t) (ahead_in offset ss n) (walk_of ss n) (λ u _. ahead_walks ss n u)
ahead_walks (AtTime time ∷ ss) n t = refl

-- and so every list
lead_walks : (ss : List Step) (n : Moment) → lead_in offset ss n ≡ walk_of ss n n
lead_walks ss n = rw (ahead_walks ss n n) (either (is_dated ss))
  where
    either : (b : Bool) → cond b (walk_of ss n n) (walk_of ss n n) ≡ walk_of ss n n
    either true = refl
    either false = refl

-- 8, then 9, then the steps in order
pub run_walks :
    (ss : List Step) (n : Moment) →
    run_of ss n ≡ cond (is_moment n) (cond (is_list ss) (walk_of ss n n) (refused refusal.NoSense)) (refused refusal.InvalidMoment)
unfolding run_in run_of
run_walks ss n = rw (lead_walks ss n)
