-- The links of a chain are walked from the last to the first, whatever is carried along: a moment or a refusal, steps, a count.
use Prim.Native.Nat.{ℕ, zero, suc, ◌-◌, ◌≤◌, ◌<◌}
use native.Mathlib.Omega.{arith}
use mathlib.Core.Path.{◌≡◌, refl, ap, sym, ◌∙◌}
use mathlib.Core.Bool.{Bool, true, false}
use mathlib.Core.List.{List, [], ◌∷◌}
use lib.ListN.{length, get_or, take}
use lib.Seq.{slice, slice-cons, slice_empty}
use Rattle.refusals.specs.declared.Reason.{Reason}
use Rattle.calendar.specs.Moments.{Outcome, moment, refused, and_then}
use Rattle.calendar.specs.declared.moments.Moment.{Moment}
use Rattle.dates.specs.Durations.{Duration}
use Rattle.dates.specs.declared.duration.Slot.{Slot}
use Rattle.phrase.specs.Tree.{DateTime, around}
use Rattle.phrase.specs.Chains.{row_duration, base_of, links_from, tree_of, blank_link}
use Rattle.phrase.specs.declared.chain.Link.{Link}
use Rattle.phrase.specs.declared.chain.Chain.{Chain}
use Rattle.evaluation.specs.Steps.{duration_step}
use Rattle.evaluation.specs.Evaluate.{evaluate_in, evaluate}

-- link i, and its duration
abbrev pub link_at : Chain → ℕ → Link
link_at r i = get_or r.links i blank_link

abbrev pub lasting : Chain → ℕ → Duration
lasting r i = row_duration (slice (link_at r i).from (link_at r i).to r.parts.items)

-- what a duration, back or on, makes of what is carried along
module _ {X : Type 0} (by : Bool → Duration → X → X) where
  abbrev walk : List Slot → List Link → X → X
  walk items [] x = x
  walk items (k ∷ ks) x = by k.back (row_duration (slice k.from k.to items)) (walk items ks x)

  -- what the links from i on make of it
  abbrev pub links_at : Chain → ℕ → X → X
  links_at r i x = walk r.parts.items (slice i r.m r.links) x

  -- no link yet
  pub no_link : (r : Chain) (x : X) → links_at r r.m x ≡ x
  no_link r x = rw (slice_empty r.m r.links)

  module _ (r : Chain) (x : X) (most : r.m ≤ length r.links) where
    pub next_link : (i : ℕ) → i < r.m → links_at r i x ≡ by (link_at r i).back (lasting r i) (links_at r (suc i) x)
    next_link i h = rw (slice-cons i r.m r.links blank_link h most)

    -- one link more, in front of link i
    pub turn : (i : ℕ) → 0 < i → i ≤ r.m → links_at r (i - 1) x ≡ by (link_at r (i - 1)).back (lasting r (i - 1)) (links_at r i x)
    turn i some h =
        let same : suc (i - 1) ≡ i = omega arith in
        next_link (i - 1) (omega arith) ∙ ap (λ (j : ℕ). by (link_at r (i - 1)).back (lasting r (i - 1)) (links_at r j x)) same

  -- a value of trees that a duration around a tree changes so: that of a reading is that of its base, changed by the links
  module _ (value : DateTime → X) (said : (back : Bool) (d : Duration) (t : DateTime) → value (around back d t) ≡ by back d (value t)) where
    walked : (ks : List Link) (items : List Slot) (t : DateTime) → value (links_from ks items t) ≡ walk items ks (value t)
    walked [] items t = refl
    walked (k ∷ ks) items t =
        let d = row_duration (slice k.from k.to items) in
        said k.back d (links_from ks items t) ∙ ap (by k.back d) (walked ks items t)

    pub chain_walked : (r : Chain) → value (tree_of r) ≡ links_at r 0 (value (base_of r))
    unfolding tree_of
    chain_walked r = walked (take r.m r.links) r.parts.items (base_of r)

-- a duration from where a moment has led
abbrev pub stepped : Bool → Duration → Outcome → Outcome
stepped back d o = and_then o (duration_step back d)

-- a duration around a tree is a step from where the tree leads
pub around_step : (n : Moment) (back : Bool) (d : Duration) (x : DateTime) → evaluate (around back d x) n ≡ stepped back d (evaluate x n)
unfolding evaluate_in
around_step n true d x = refl
around_step n false d x = refl

-- a reading at a now, from what its base gives there
module _ (r : Chain) (n : Moment) (o : Outcome) (most : r.m ≤ length r.links) (based : o ≡ evaluate (base_of r) n) where
  -- leads where its links lead from there
  pub from_base : evaluate (tree_of r) n ≡ links_at stepped r 0 o
  from_base = chain_walked stepped (λ x. evaluate x n) (around_step n) r ∙ ap (links_at stepped r 0) (sym based)

  -- one link more, from a moment
  pub link_on : (i : ℕ) (t : Moment) (u : Outcome) → 0 < i → i ≤ r.m → links_at stepped r i o ≡ moment t →
      u ≡ duration_step (link_at r (i - 1)).back (lasting r (i - 1)) t → links_at stepped r (i - 1) o ≡ u
  link_on i t u some h e f = turn stepped r o most i some h ∙ ap (stepped (link_at r (i - 1)).back (lasting r (i - 1))) e ∙ sym f

  -- a refusal stays
  stays : (i : ℕ) (k : Reason) → i ≤ r.m → links_at stepped r i o ≡ refused k → links_at stepped r 0 o ≡ refused k
  stays zero k h e = e
  stays (suc i) k h e = stays i k (omega arith) (next_link stepped r o most i (omega arith) ∙ rw e)

  -- so it is the reading's
  pub link_refused : (i : ℕ) (k : Reason) → i ≤ r.m → links_at stepped r i o ≡ refused k → refused k ≡ evaluate (tree_of r) n
  link_refused i k h e = sym (from_base ∙ stays i k h e)
