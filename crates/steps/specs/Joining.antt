-- Which neighbours become one, on lists of steps.
use Rattle.std.specs.Prelude.{ℕ, ◌+◌, Bool, true, false, cond, List, [], ◌∷◌, Option, Some, None}
use Rattle.std.specs.Bool.{beq}
use Rattle.steps.specs.declared.plan.Start.{Start}
use Rattle.steps.specs.declared.plan.Start.TheVariants.{Now, Senseless, OnDate, InWeek, FromToday}
use Rattle.steps.specs.declared.plan.Move.{Move}
use Rattle.steps.specs.declared.plan.Move.TheVariants.{Minutes, Months, Years, BackTo, ForwardTo}
use Rattle.steps.specs.declared.plan.Step.{Step}
use Rattle.steps.specs.declared.plan.Step.TheVariants.{From, By, AtTime}
use Rattle.steps.specs.declared.plan.Length.{Length}
use Rattle.steps.specs.declared.plan.Join.{Join}
use Rattle.steps.specs.declared.plan.Join.TheVariants.{Alone, Apart, One}

-- "refusal 9"
abbrev pub is_refusal : Start → Bool
is_refusal Now = false
is_refusal Senseless = true
is_refusal (OnDate d) = false
is_refusal (InWeek s w) = false
is_refusal (FromToday w) = false

-- whether a step is one
abbrev pub refuses : Step → Bool
refuses (From s) = is_refusal s
refuses (By m) = false
refuses (AtTime t) = false

-- "fixed length": so many minutes, back or on
abbrev pub fixed : Bool → ℕ → Length
fixed back k = record { back = back; count = k }

-- a move as one
abbrev pub length_of : Move → Option Length
length_of (Minutes back k) = Some (fixed back k)
length_of (Months back k) = None
length_of (Years back k) = None
length_of (BackTo w) = None
length_of (ForwardTo w) = None

-- and a step
abbrev pub fixed_of : Step → Option Length
fixed_of (From s) = None
fixed_of (By m) = length_of m
fixed_of (AtTime t) = None

-- its minutes, and 0 for any other step
abbrev pub minutes_in : Option Length → ℕ
minutes_in None = 0
minutes_in (Some m) = m.count

abbrev pub minutes_of : Step → ℕ
minutes_of s = minutes_in (fixed_of s)

-- a fixed length and what stands behind it: two of opposite directions stay two
abbrev pub same_way : Length → Option Length → Join
same_way m None = Apart
same_way m (Some k) = cond (beq m.back k.back) (One (fixed m.back (m.count + k.count))) Apart

-- "Neighbouring fixed lengths of one direction become one."
abbrev pub together : Option Length → Option Length → Join
together None g = Apart
together (Some m) g = same_way m g

-- "A refusal start stands alone."
abbrev pub join_of : Step → Step → Join
join_of last s = cond (refuses last) Alone (together (fixed_of last) (fixed_of s))

-- the last step and one behind it, by what becomes of them
abbrev pub joined : Join → Step → Step → List Step
joined Alone last s = last ∷ []
joined Apart last s = last ∷ s ∷ []
joined (One m) last s = By (Minutes m.back m.count) ∷ []

-- one step more behind a list
abbrev pub add_step : List Step → Step → List Step
add_step [] s = s ∷ []
add_step (x ∷ []) s = joined (join_of x s) x s
add_step (x ∷ y ∷ ys) s = x ∷ add_step (y ∷ ys) s

-- whether two neighbours are no fixed lengths of one direction
abbrev pub are_apart : Join → Bool
are_apart Alone = true
are_apart Apart = true
are_apart (One m) = false

-- no two fixed lengths of one direction side by side
abbrev pub all_apart : List Step → Bool
all_apart [] = true
all_apart (x ∷ []) = true
all_apart (x ∷ y ∷ ys) = cond (are_apart (join_of x y)) (all_apart (y ∷ ys)) false
