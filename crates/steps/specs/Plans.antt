-- The struct that holds a list of steps.
use Rattle.std.specs.Prelude.{ℕ, zero, suc, ◌+◌, ◌-◌, List, [], ◌∷◌, length, set, get_or, take, replicate}
use Rattle.steps.specs.Joining.{join_of}
use Rattle.steps.specs.declared.plan.Join.{Join}
use Rattle.steps.specs.declared.plan.Join.TheVariants.{Alone, Apart, One}
use Rattle.steps.specs.declared.plan.Move.TheVariants.{Minutes}
use Rattle.steps.specs.declared.plan.Plan.{Plan}
use Rattle.steps.specs.declared.plan.Start.{Start}
use Rattle.steps.specs.declared.plan.Start.TheVariants.{Now}
use Rattle.steps.specs.declared.plan.Step.{Step}
use Rattle.steps.specs.declared.plan.Step.TheVariants.{From, By}

-- what stands behind the last step
abbrev pub blank_step : Step
blank_step = From Now

-- no step
abbrev pub blank_plan : Plan
blank_plan = record { n = 0; slots = replicate 24 blank_step }

-- the list of a plan
abbrev pub steps_in : Plan → List Step
steps_in p = take p.n p.slots

-- the steps of a list, and blank slots behind them
abbrev pub slots_of : ℕ → List Step → List Step
slots_of zero ss = []
slots_of (suc k) [] = blank_step ∷ slots_of k []
slots_of (suc k) (s ∷ ss) = s ∷ slots_of k ss

-- the plan of a list of at most 24 steps
unfoldable pub plan_of : List Step → Plan
plan_of ss = record { n = length ss; slots = slots_of 24 ss }

-- the last step
abbrev pub last_of : Plan → Step
last_of p = get_or p.slots (p.n - 1) blank_step

-- one step more
abbrev pub pushed : Plan → Step → Plan
pushed p s = record { n = p.n + 1; slots = set p.slots p.n s }

-- a start alone
abbrev pub begun : Start → Plan
begun s = pushed blank_plan (From s)

-- another step in the place of the last one
abbrev pub replaced : Plan → Step → Plan
replaced p s = record { n = p.n; slots = set p.slots (p.n - 1) s }

-- by what becomes of the last step and the new one
abbrev pub added_by : Join → Plan → Step → Plan
added_by Alone p s = p
added_by Apart p s = pushed p s
added_by (One m) p s = replaced p (By (Minutes m.back m.count))

-- `add_step`, on plans: `added` says that it is the same
unfoldable pub add_to : Plan → Step → Plan
add_to p s = added_by (join_of (last_of p) s) p s
