-- A duration as its row of parts, one step behind a plan for each.
use Prim.Native.Nat.{ℕ, suc, ◌+◌, ◌-◌, ◌≤◌, ◌<◌}
use native.Mathlib.Omega.{arith}
use mathlib.Core.Path.{◌≡◌, refl, ap, ◌∙◌}
use mathlib.Core.Bool.{Bool}
use mathlib.Core.List.{List, [], ◌∷◌}
use lib.ListN.{length, get_or, take, drop}
use lib.Seq.{slice, slice-cons, length-slice}
use Rattle.dates.specs.Durations.{Duration, part, concat, size}
use Rattle.dates.specs.declared.duration.Part.{Part}
use Rattle.dates.specs.declared.duration.Slot.{Slot}
use Rattle.phrase.specs.Chains.{blank_slot, duration_from, row_duration}
use Rattle.evaluation.proofs.Rows.{over, over_row, row_steps, cut}
use Rattle.steps.specs.Plans.{add_to}
use Rattle.steps.specs.declared.plan.Plan.{Plan}
use Rattle.steps.specs.declared.plan.Step.TheVariants.{By}
use Rattle.ready.specs.Made.{move_of_part, add_duration, held}

-- a part's step behind a plan
abbrev pub step_behind : Bool → Part → Plan → Plan
step_behind back x p = add_to p (By (move_of_part back x))

-- a duration's steps are those of its parts
duration_over : (back : Bool) (d : Duration) (p : Plan) → add_duration held back p d ≡ over (step_behind back) d p
duration_over back (part x) p = refl
duration_over back (concat x d) p = duration_over back d (step_behind back x p)

-- a row of parts has as many as its duration
row_parts : (x : Slot) (xs : List Slot) → size (duration_from x xs) ≡ suc (length xs)
row_parts x [] = refl
row_parts x (y ∷ ys) = ap suc (row_parts y ys)

-- the rows within a longer one
module _ (l : List Slot) (i to : ℕ) (h : i < to) (k : to ≤ length l) where
  -- how many parts the duration of a row has
  pub row_size : size (row_duration (slice i to l)) + i ≡ to
  row_size =
      rw (slice-cons i to l blank_slot h k)
      (omega (arith, row_parts (get_or l i blank_slot) (slice (suc i) to l), length-slice (suc i) to l k))

  -- its steps behind a plan
  pub row_added : (back : Bool) (p : Plan) → add_duration held back p (row_duration (slice i to l)) ≡ over_row (step_behind back) (slice i to l) p
  row_added back p = duration_over back (row_duration (slice i to l)) p ∙ row_steps (step_behind back) l i to p h k

-- a row of the parts from one place up to another has as many
pub row_length : (i to : ℕ) (l : List Slot) → i < to → to ≤ length l → length (take (to - i) (drop i l)) + i ≡ to
row_length i to l h k = rw (cut i to l h) (omega (arith, length-slice i to l k))
