-- Steps whose numbers fit the fields of a record, and that joining keeps them so.
use Prim.Native.Nat.{ℕ, ◌+◌, ◌≤◌}
use native.Mathlib.Omega.{arith}
use mathlib.Core.List.{List, [], ◌∷◌}
use Rattle.dates.proofs.Small.{Small, SmallDate, SmallTime}
use Rattle.steps.specs.Joining.{join_of, joined, add_step, minutes_of}
use Rattle.steps.specs.declared.plan.Start.{Start}
use Rattle.steps.specs.declared.plan.Start.TheVariants.{Now, Senseless, OnDate, InWeek, FromToday}
use Rattle.steps.specs.declared.plan.Move.{Move}
use Rattle.steps.specs.declared.plan.Move.TheVariants.{Minutes, Months, Years, BackTo, ForwardTo}
use Rattle.steps.specs.declared.plan.Step.{Step}
use Rattle.steps.specs.declared.plan.Step.TheVariants.{From, By, AtTime}
use Rattle.steps.proofs.Joined.{minutes, Meeting, refusal, apart, lengths, meeting}

-- every number of a start is below 2 ^ 32
abbrev pub SmallStart : Start → Type 0
SmallStart Now = Unit
SmallStart Senseless = Unit
SmallStart (OnDate d) = SmallDate d
SmallStart (InWeek s w) = Small w
SmallStart (FromToday w) = Small w

-- of a move, but for minutes
abbrev pub SmallMove : Move → Type 0
SmallMove (Minutes back k) = Unit
SmallMove (Months back k) = Small k
SmallMove (Years back k) = Small k
SmallMove (BackTo w) = Small w
SmallMove (ForwardTo w) = Small w

-- of a step
abbrev pub SmallNumbers : Step → Type 0
SmallNumbers (From s) = SmallStart s
SmallNumbers (By m) = SmallMove m
SmallNumbers (AtTime t) = SmallTime t

-- and it has at most so many minutes
pub record SmallStep (most : ℕ) (s : Step) : Type 0 where
  pub numbers : SmallNumbers s
  pub minutes : minutes_of s ≤ most

-- every step of a list
pub data All (P : Step → Type 0) : List Step → Type 0 where
  none : All P []
  more : {s : Step} {ss : List Step} → P s → All P ss → All P (s ∷ ss)

-- with room for more minutes
smaller : {m k : ℕ} {s : Step} → m ≤ k → SmallStep m s → SmallStep k s
smaller le h = record { numbers = h.numbers; minutes = omega (arith, h.minutes) }

pub all_smaller : {m k : ℕ} {ss : List Step} → m ≤ k → All (SmallStep m) ss → All (SmallStep k) ss
all_smaller le none = none
all_smaller le (more h hs) = more (smaller le h) (all_smaller le hs)

-- the last step and one behind it have at most the minutes of both
joined_small : {x s : Step} {m k : ℕ} → Meeting x s → SmallStep m x → SmallStep k s → All (SmallStep (m + k)) (joined (join_of x s) x s)
joined_small (refusal e j) g h = rw j (more (smaller (omega arith) g) none)
joined_small (apart j) g h = rw j (more (smaller (omega arith) g) (more (smaller (omega arith) h) none))
joined_small (lengths back a b e f j) g h =
    let first = rw e at g.minutes in
    let second = rw f at h.minutes in
    rw j (more {s = minutes back (a + b)} (record { numbers = tt; minutes = omega arith }) none)

-- one step more
pub small_add : {m : ℕ} {ss : List Step} {s : Step} {k : ℕ} → All (SmallStep m) ss → SmallStep k s → All (SmallStep (m + k)) (add_step ss s)
small_add none h = more (smaller (omega arith) h) none
small_add (more g none) h = joined_small (meeting _ _) g h
small_add (more g (more i hs)) h = more (smaller (omega arith) g) (small_add (more i hs) h)
