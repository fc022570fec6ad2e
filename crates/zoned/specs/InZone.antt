-- The world of a zone, and a reading or a list of steps at an instant there.
use Rattle.std.specs.Prelude.{cond, List, ltb}
use Rattle.calendar.specs.Moments.{Reach, refused, and_then}
use Rattle.phrase.specs.Tree.{DateTime}
use Rattle.refusals.specs.declared.Reason.TheVariants as refusal
use Rattle.evaluation.specs.Worlds.{World}
use Rattle.evaluation.specs.Evaluate.{evaluate_in}
use Rattle.steps.specs.Running.{run_in}
use Rattle.steps.specs.declared.plan.Step.{Step}
use Rattle.tzif.specs.Zones.{Zone}
use Rattle.zones.specs.Civil.{civil_of, last_in, in_years}
use Rattle.zones.specs.Instants.{fixed_step, clock_of, instant_at}
use Rattle.zones.specs.declared.instants.Instant.{Instant}

module _ (z : Zone) where
  -- the zone's world: its moments are instants
  abbrev pub in_zone : World Instant
  in_zone = record {
    civil = clock_of z;
    settle = λ o. and_then o (instant_at z);
    fixed = fixed_step z;
  }

  -- a call at an instant: 8 for, "before the last transition, a civil now outside years 1 to 9999"; "22 .. for now itself"
  abbrev pub enter_second : Instant → (Instant → Reach Instant) → Reach Instant
  enter_second n go = cond (ltb n.second (last_in z)) (cond (in_years (civil_of z n.second)) (go n) (refused refusal.InvalidMoment)) (refused refusal.PastLast)

  -- "8 for milliseconds above 999", and "22 .. just after 8"
  abbrev pub enter_at : Instant → (Instant → Reach Instant) → Reach Instant
  enter_at n go = cond (ltb n.millisecond 1000) (enter_second n go) (refused refusal.InvalidMoment)

  -- a reading
  unfoldable pub evaluate_at : DateTime → Instant → Reach Instant
  evaluate_at x n = enter_at n (evaluate_in in_zone x)

  -- a list of steps: 9 behind 22 of now
  unfoldable pub run_at : List Step → Instant → Reach Instant
  run_at ss n = enter_at n (run_in in_zone ss)
