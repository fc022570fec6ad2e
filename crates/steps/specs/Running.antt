-- What a list of steps gives in a world, and at a fixed offset.
use Rattle.std.specs.Prelude.{ℕ, ◌+◌, ◌%◌, Bool, true, false, cond, ◌&&◌, List, [], ◌∷◌, leb, eqb, length}
use Rattle.calendar.specs.Moments.{Reach, moment, refused, and_then, Outcome, is_moment, months_step, years_step}
use Rattle.calendar.specs.declared.moments.Moment.{Moment}
use Rattle.numbers.specs.Slices.{one_if}
use Rattle.refusals.specs.declared.Reason.TheVariants as refusal
use Rattle.evaluation.specs.Worlds.{World, offset}
use Rattle.evaluation.specs.Weekdays.{in_week, forward_to, back_to}
use Rattle.evaluation.specs.Dates.{date_at}
use Rattle.evaluation.specs.Times.{time_at}
use Rattle.steps.specs.declared.plan.Start.{Start}
use Rattle.steps.specs.declared.plan.Start.TheVariants.{Now, Senseless, OnDate, InWeek, FromToday}
use Rattle.steps.specs.declared.plan.Move.{Move}
use Rattle.steps.specs.declared.plan.Move.TheVariants.{Minutes, Months, Years, BackTo, ForwardTo}
use Rattle.steps.specs.declared.plan.Step.{Step}
use Rattle.steps.specs.declared.plan.Step.TheVariants.{From, By, AtTime}

-- The steps of a list in a world, at its now n.
module _ {S : Type 0} (w : World S) where
  -- "start (now, a date rule, or refusal 9)", from x
  abbrev pub start_in : Start → S → Reach S
  start_in Now x = moment x
  start_in Senseless x = refused refusal.NoSense
  start_in (OnDate d) x = w.settle (date_at d (w.civil x))
  start_in (InWeek s d) x = w.settle (in_week s (d % 7) (w.civil x))
  start_in (FromToday d) x = w.settle (forward_to (d % 7) (w.civil x))

  -- "fixed length, months, years, back to a weekday" or on to one, from x: "Fixed steps after a time or after now act on the instant; date,
  -- month and year steps act on the civil time."
  abbrev pub move_in : Move → S → Reach S
  move_in (Minutes back k) x = w.fixed back k x
  move_in (Months back k) x = w.settle (months_step back k (w.civil x))
  move_in (Years back k) x = w.settle (years_step back k (w.civil x))
  move_in (BackTo d) x = w.settle (back_to (d % 7) (w.civil x))
  move_in (ForwardTo d) x = w.settle (forward_to (d % 7) (w.civil x))

  -- these, or the "time of day": a step from x
  abbrev pub act_in : Step → S → S → Reach S
  act_in (From s) n x = start_in s x
  act_in (By m) n x = move_in m x
  act_in (AtTime time) n x = w.settle (time_at time (w.civil n) (w.civil x))

  -- the steps in order, up to the first refusal
  abbrev pub walk_in : List Step → S → S → Reach S
  walk_in [] n x = moment x
  walk_in (s ∷ ss) n x = and_then (act_in s n x) (walk_in ss n)

-- at a fixed offset, which is on civil date and time alone
abbrev pub start_at : Start → Moment → Outcome
start_at = start_in offset

abbrev pub move_by : Move → Moment → Outcome
move_by = move_in offset

abbrev pub act_of : Step → Moment → Moment → Outcome
act_of = act_in offset

abbrev pub walk_of : List Step → Moment → Moment → Outcome
walk_of = walk_in offset

-- whether a step is a start
abbrev pub is_start : Step → Bool
is_start (From s) = true
is_start (By m) = false
is_start (AtTime time) = false

-- whether it is the time of day
abbrev pub is_time_step : Step → Bool
is_time_step (From s) = false
is_time_step (By m) = false
is_time_step (AtTime time) = true

-- the time steps that a start needs: "one for a dated start and none for now"; a refusal needs none
abbrev pub times_from : Start → ℕ
times_from Now = 0
times_from Senseless = 0
times_from (OnDate d) = 1
times_from (InWeek s w) = 1
times_from (FromToday w) = 1

-- and a first step
abbrev pub times_due : Step → ℕ
times_due (From s) = times_from s
times_due (By m) = 0
times_due (AtTime time) = 0

-- how many steps of a list are of a kind
abbrev pub count_of : (Step → Bool) → List Step → ℕ
count_of is_kind [] = 0
count_of is_kind (s ∷ ss) = one_if (is_kind s) + count_of is_kind ss

-- how many starts there are
abbrev pub starts : List Step → ℕ
starts ss = count_of is_start ss

-- how many time steps there are
abbrev pub times : List Step → ℕ
times ss = count_of is_time_step ss

-- the first step is the only start, and the time steps are as many as it needs
abbrev pub is_formed : List Step → Bool
is_formed [] = false
is_formed (s ∷ ss) = is_start s && (eqb (starts ss) 0 && eqb (times ss) (times_due s))

-- 9: "a list given to be run that has no step or more than 24, whose first step isn't its only start, or whose time steps aren't one for a
-- dated start and none for now"
abbrev pub is_list : List Step → Bool
is_list ss = leb (length ss) 24 && is_formed ss

-- "a dated start": one that needs a time step
abbrev pub is_dated : List Step → Bool
is_dated [] = false
is_dated (s ∷ ss) = eqb (times_due s) 1

module _ {S : Type 0} (w : World S) where
  -- "Steps ahead of a time-of-day step act on civil date and time alone": from the civil moment t. The time step's result is settled.
  abbrev pub ahead_in : List Step → S → Moment → Reach S
  ahead_in [] n t = w.settle (moment t)
  ahead_in (From s ∷ ss) n t = and_then (start_at s t) (ahead_in ss n)
  ahead_in (By m ∷ ss) n t = and_then (move_by m t) (ahead_in ss n)
  ahead_in (AtTime time ∷ ss) n t = and_then (w.settle (time_at time (w.civil n) t)) (walk_in w ss n)

  -- a dated start is ahead of its time step; now is in the world
  abbrev pub lead_in : List Step → S → Reach S
  lead_in ss n = cond (is_dated ss) (ahead_in ss n (w.civil n)) (walk_in w ss n n)

  -- 9, then the steps
  unfoldable pub run_in : List Step → S → Reach S
  run_in ss n = cond (is_list ss) (lead_in ss n) (refused refusal.NoSense)

-- at a fixed offset 8 before these; `run_walks` says that there the steps just act in order
unfoldable pub run_of : List Step → Moment → Outcome
run_of ss n = cond (is_moment n) (run_in offset ss n) (refused refusal.InvalidMoment)
