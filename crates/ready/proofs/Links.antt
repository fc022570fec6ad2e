-- The steps of a chain: those of its base, and then of each link's duration, from the last link to the first.
use Prim.Native.Nat.{ℕ, zero, suc, ◌+◌, ◌-◌, ◌≤◌, ◌<◌}
use native.Mathlib.Omega.{arith}
use mathlib.Core.Path.{◌≡◌, refl, ap, sym, ◌∙◌}
use mathlib.Core.Bool.{Bool, true, false}
use lib.ListN.{length}
use Rattle.dates.specs.Durations.{Duration, size}
use Rattle.phrase.specs.Tree.{DateTime, around}
use Rattle.phrase.specs.Chains.{base_of, tree_of, size_tree}
use Rattle.phrase.specs.declared.chain.Chain.{Chain}
use Rattle.evaluation.proofs.Links.{link_at, lasting, links_at, next_link, turn, chain_walked}
use Rattle.steps.specs.declared.plan.Plan.{Plan}
use Rattle.ready.specs.Made.{add_duration, tree_steps, held}

-- a duration's steps behind a plan
abbrev pub behind : Bool → Duration → Plan → Plan
behind back d p = add_duration held back p d

-- a duration's parts, counted on
abbrev pub counted : Bool → Duration → ℕ → ℕ
counted back d k = size d + k

around_steps : (back : Bool) (d : Duration) (x : DateTime) → tree_steps held (around back d x) ≡ behind back d (tree_steps held x)
unfolding tree_steps
around_steps true d x = refl
around_steps false d x = refl

around_size : (back : Bool) (d : Duration) (x : DateTime) → size_tree (around back d x) ≡ counted back d (size_tree x)
around_size true d x = refl
around_size false d x = refl

-- the steps and the parts of the base and the links from i on
abbrev pub plan_at : Chain → ℕ → Plan
plan_at r i = links_at behind r i (tree_steps held (base_of r))

abbrev pub size_at : Chain → ℕ → ℕ
size_at r i = links_at counted r i (size_tree (base_of r))

-- from the first link on they are those of the whole reading
pub whole_plan : (r : Chain) → tree_steps held (tree_of r) ≡ plan_at r 0
whole_plan r = chain_walked behind (tree_steps held) around_steps r

pub whole_size : (r : Chain) → size_tree (tree_of r) ≡ size_at r 0
whole_size r = chain_walked counted size_tree around_size r

module _ (r : Chain) (most : r.m ≤ length r.links) where
  -- what is inside has no more parts
  pub inner_size : (i : ℕ) → i ≤ r.m → size_at r i ≤ size_at r 0
  inner_size zero h = omega arith
  inner_size (suc i) h = omega (arith, inner_size i (omega arith), next_link counted r (size_tree (base_of r)) most i (omega arith))

  -- one link more, in front of link i: its parts, and its steps
  module _ (i : ℕ) (some : 0 < i) (h : i ≤ r.m) where
    pub turn_size : size_at r (i - 1) ≡ size (lasting r (i - 1)) + size_at r i
    turn_size = turn counted r (size_tree (base_of r)) most i some h

    pub turn_plan : {p : Plan} → p ≡ plan_at r i → add_duration held (link_at r (i - 1)).back p (lasting r (i - 1)) ≡ plan_at r (i - 1)
    turn_plan e =
        ap (behind (link_at r (i - 1)).back (lasting r (i - 1))) e ∙ sym (turn behind r (tree_steps held (base_of r)) most i some h)
