-- Every chain of a tree of at most 21 parts is formed: no duration without a part.
use Prim.Native.Nat.{ℕ, ◌+◌, ◌≤◌, ◌<◌}
use native.Mathlib.Nat.{eq-or-lt_of_le}
use native.Mathlib.Omega.{arith}
use mathlib.Core.Path.{◌≡◌, refl}
use mathlib.Core.Logic.{⊎_elim}
use mathlib.Core.Bool.{Bool, true, false, false≢true}
use mathlib.Core.List.{List}
use lib.ListN.{length, get_or, set, length-set}
use lib.Seq.{get_or-set_same, get_or-set_other}
use Rattle.dates.specs.Durations.{Duration, into, size}
use Rattle.dates.proofs.Durations.{into_n}
use Rattle.dates.specs.declared.duration.Parts.{Parts}
use Rattle.dates.specs.declared.time.Time.{Time}
use Rattle.expressions.specs.Tree.{DateExpr, date, date_relative, date_expression_after, date_expression_before, unit_relative, relative_weekday}
use Rattle.expressions.specs.Tree.{weekday_relative, weekday_expression_before, weekday_expression_after, before, after, weekday, empty}
use Rattle.expressions.specs.Shapes.{shape, has_duration, size_expr}
use Rattle.phrase.specs.Tree.{DateTime, date_time, time_date, duration_after, duration_before, now}
use Rattle.phrase.specs.Chains.{linked_parts, based, chain_from, chain_of, blank, blank_link, size_tree}
use Rattle.phrase.specs.Outlines.{has_own}
use Rattle.phrase.specs.Formed.{Formed}
use Rattle.phrase.specs.declared.chain.Base.{Base}
use Rattle.phrase.specs.declared.chain.Link.{Link}
use Rattle.phrase.specs.declared.chain.Chain.{Chain}
use Rattle.phrase.proofs.Decoded.{some, tree_count}

-- what holds of the first m elements and of one that is put behind them holds of the first m + 1
module _ {A : Type 0} (P : A → Type 0) (l : List A) (m : ℕ) (a d : A) where
  one_more : m < length l → P a → ((k : ℕ) → k < m → P (get_or l k d)) → (k : ℕ) → k < m + 1 → P (get_or (set l m a) k d)
  one_more h p q k below = let most : k ≤ m = omega arith in ⊎_elim at_last ahead (eq-or-lt_of_le most)
    where
      at_last : k ≡ m → P (get_or (set l m a) k d)
      at_last same = rw (same, get_or-set_same l m a d h) p

      ahead : k < m → P (get_or (set l m a) k d)
      ahead i = rw (get_or-set_other l m k a d (λ e. omega arith)) (q k i)

-- a link has parts, and they are there
abbrev HasParts : Link → Type 0
HasParts k = (k.from < k.to) × (k.to ≤ 21)

-- room for k parts, and for a link each, behind links that have parts
record Room (r : Chain) (k : ℕ) : Type 0 where
  parts : r.parts.n + k ≤ 21
  links : r.m + k ≤ 21
  all : length r.links ≡ 21
  linked : (j : ℕ) → j < r.m → HasParts (get_or r.links j blank_link)

-- one link more
room_inside :
    (back : Bool) (dur : Duration) (x : DateTime) (r : Chain) → Room r (size dur + size_tree x) →
    Room (linked_parts back (into dur r.parts) r) (size_tree x)
room_inside back dur x r h =
    let link : Link = record { back = back; from = r.parts.n; to = (into dur r.parts).n } in
    let count = into_n dur r.parts in
    let part = some dur in
    record {
      parts = omega arith;
      links = omega arith;
      all = simp length-set h.all;
      linked = one_more HasParts r.links r.m link blank_link (omega arith) (omega arith, omega arith) h.linked;
    }

-- a date expression that has a duration has a part
own_part : (e : DateExpr) → has_duration (shape e) ≡ true → 0 < size_expr e
own_part (date d) h = absurd (false≢true h)
own_part (date_relative d s u) h = absurd (false≢true h)
own_part (date_expression_after d dur) h = some dur
own_part (date_expression_before d dur) h = some dur
own_part (unit_relative s u) h = absurd (false≢true h)
own_part (relative_weekday s w) h = absurd (false≢true h)
own_part (weekday_relative w s u) h = absurd (false≢true h)
own_part (weekday_expression_before w dur) h = some dur
own_part (weekday_expression_after w dur) h = some dur
own_part (before dur d) h = some dur
own_part (after dur d) h = some dur
own_part (weekday w) h = absurd (false≢true h)
own_part empty h = absurd (false≢true h)

-- a base of k parts behind the links of a reading
formed_base :
    (b : Base) (t : Time) (ps : Parts) (k : ℕ) (r : Chain) → Room r k → ps.n ≡ r.parts.n + k → (has_own b ≡ true → 0 < k) →
    Formed (based b t ps r)
formed_base b t ps k r h count part =
    record {
      parts = omega arith;
      links = omega arith;
      own = λ has. let some = part has in omega arith;
      from_to = λ j below. (h.linked j below).0;
      to_most = λ j below. (h.linked j below).1;
    }

-- a tree inside the links of a reading
formed_inside : (x : DateTime) (r : Chain) → Room r (size_tree x) → Formed (chain_from r x)
formed_inside (date_time e t) r h = formed_base _ t _ (size_expr e) r h (tree_count (date_time e t) r) (own_part e)
formed_inside (time_date t e) r h = formed_base _ t _ (size_expr e) r h (tree_count (time_date t e) r) (own_part e)
formed_inside (duration_after dur x) r h = formed_inside x _ (room_inside false dur x r h)
formed_inside (duration_before dur x) r h = formed_inside x _ (room_inside true dur x r h)
formed_inside now r h = formed_base _ _ _ 0 r h (tree_count now r) (λ h. absurd (false≢true h))

-- the chain of a tree
pub formed : (x : DateTime) → size_tree x ≤ 21 → Formed (chain_of x)
formed x h =
    formed_inside x blank (record { parts = omega arith; links = omega arith; all = refl; linked = λ j below. absurd (omega arith) })
