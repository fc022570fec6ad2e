-- A chain stands for its tree: `tree_of (chain_of x) ≡ x` for every tree of at most 21 parts.
use Prim.Native.Nat.{ℕ, ◌+◌, ◌≤◌, ◌<◌}
use native.Mathlib.Omega.{arith}
use native.Mathlib.Numerals.{add-one}
use mathlib.Core.Path.{◌≡◌, refl, ap, ◌∙◌}
use mathlib.Core.Bool.{Bool, true, false}
use mathlib.Core.List.{List, [], ◌∷◌, ◌++◌, append_assoc}
use lib.ListN.{length, take, drop, set, length-set}
use lib.Seq.{slice, take-suc-set, take-set-le, drop_at, length-take-le}
use Rattle.dates.specs.Durations.{Duration, part, concat, into, size, pushed}
use Rattle.dates.specs.declared.duration.Part.{Part}
use Rattle.dates.specs.declared.duration.Parts.{Parts}
use Rattle.dates.specs.declared.duration.Slot.{Slot}
use Rattle.dates.proofs.Durations.{into_n}
use Rattle.expressions.specs.Tree.{DateExpr, date, date_relative, date_expression_after, date_expression_before, unit_relative}
use Rattle.expressions.specs.Tree.{relative_weekday, weekday_relative, weekday_expression_before, weekday_expression_after, before, after, weekday, empty}
use Rattle.phrase.specs.Tree.{DateTime}
use Rattle.phrase.specs.Tree.{date_time, time_date, duration_after, duration_before, now, around}
use Rattle.expressions.specs.Shapes.{shape, own_of, of_own, into_expr, expr_from, size_expr}
use Rattle.phrase.specs.Chains.{linked_parts, chain_from, chain_of, blank, row_duration, links_from, tree_of, size_tree}
use Rattle.phrase.specs.declared.chain.Link.{Link}
use Rattle.phrase.specs.declared.chain.Chain.{Chain}
use Rattle.expressions.proofs.OwnDuration.{into_expr_n}

-- the parts of a duration as a row of their own
abbrev slots : Duration → List Slot
slots (part p) = record { part = p } ∷ []
slots (concat p d) = record { part = p } ∷ slots d

-- a row of parts is read back
row_back : (d : Duration) → row_duration (slots d) ≡ d
row_back (part p) = refl
row_back (concat p (part q)) = refl
row_back (concat p (concat q d)) = ap (concat p) (row_back (concat q d))

-- a duration's parts leave those before them as they were
into_keeps : (d : Duration) (ps : Parts) (k : ℕ) → k ≤ ps.n → take k (into d ps).items ≡ take k ps.items
into_keeps (part p) ps k h = take-set-le k ps.items ps.n (record { part = p }) h
into_keeps (concat p d) ps k h =
    into_keeps d (pushed ps p) k (omega arith) ∙ take-set-le k ps.items ps.n (record { part = p }) h

into_length : (d : Duration) (ps : Parts) → length (into d ps).items ≡ length ps.items
into_length (part p) ps = length-set ps.items ps.n (record { part = p })
into_length (concat p d) ps = into_length d (pushed ps p) ∙ length-set ps.items ps.n (record { part = p })

-- one part more stands behind them
push_row : (p : Part) (ps : Parts) → ps.n < length ps.items →
    take (pushed ps p).n (pushed ps p).items ≡ take ps.n ps.items ++ (record { part = p } ∷ [])
push_row p ps h = rw (add-one, take-suc-set ps.items ps.n (record { part = p }) h)

-- and so do a duration's parts
into_row : (d : Duration) (ps : Parts) → ps.n + size d ≤ length ps.items →
    take (into d ps).n (into d ps).items ≡ take ps.n ps.items ++ slots d
into_row (part p) ps h = push_row p ps (omega arith)
into_row (concat p d) ps h =
    let l = length-set ps.items ps.n (record { part = p }) in
    into_row d (pushed ps p) (omega (arith, l))
    ∙ ap (λ (r : List Slot). r ++ slots d) (push_row p ps (omega arith))
    ∙ append_assoc (take ps.n ps.items) (record { part = p } ∷ []) (slots d)

-- the duration that was put behind m parts is read back from any row that begins as this one
module _ (d : Duration) (ps : Parts) (h : ps.n + size d ≤ length ps.items) where
  pub put_back : (l : List Slot) → take (into d ps).n l ≡ take (into d ps).n (into d ps).items →
      row_duration (slice ps.n (into d ps).n l) ≡ d
  put_back l e =
      ap (λ (r : List Slot). row_duration (drop ps.n r)) (e ∙ into_row d ps h)
      ∙ ap row_duration (drop_at (take ps.n ps.items) (slots d) ps.n (length-take-le ps.n ps.items (omega arith)))
      ∙ row_back d

-- a tree's parts leave those before them as they were
expr_keeps : (e : DateExpr) (ps : Parts) (k : ℕ) → k ≤ ps.n → take k (into_expr e ps).items ≡ take k ps.items
expr_keeps e ps k h = go (own_of e)
  where
    go : (own : List Duration) → take k (of_own ps (λ dur. into dur ps) own).items ≡ take k ps.items
    go [] = refl
    go (dur ∷ none) = into_keeps dur ps k h

tree_keeps : (x : DateTime) (r : Chain) (k : ℕ) → k ≤ r.parts.n → take k (chain_from r x).parts.items ≡ take k r.parts.items
tree_keeps (date_time e t) r k h = expr_keeps e r.parts k h
tree_keeps (time_date t e) r k h = expr_keeps e r.parts k h
tree_keeps (duration_after dur x) r k h =
    tree_keeps x (linked_parts false (into dur r.parts) r) k (omega (arith, into_n dur r.parts)) ∙ into_keeps dur r.parts k h
tree_keeps (duration_before dur x) r k h =
    tree_keeps x (linked_parts true (into dur r.parts) r) k (omega (arith, into_n dur r.parts)) ∙ into_keeps dur r.parts k h
tree_keeps now r k h = refl

-- a date expression is read back
expr_back : (e : DateExpr) (ps : Parts) → ps.n + size_expr e ≤ length ps.items →
    expr_from (shape e) (row_duration (slice ps.n (into_expr e ps).n (into_expr e ps).items)) ≡ e
expr_back (date d) ps h = refl
expr_back (date_relative d s u) ps h = refl
expr_back (date_expression_after d dur) ps h = ap (date_expression_after d) (put_back dur ps h (into dur ps).items refl)
expr_back (date_expression_before d dur) ps h = ap (date_expression_before d) (put_back dur ps h (into dur ps).items refl)
expr_back (unit_relative s u) ps h = refl
expr_back (relative_weekday s w) ps h = refl
expr_back (weekday_relative w s u) ps h = refl
expr_back (weekday_expression_before w dur) ps h = ap (weekday_expression_before w) (put_back dur ps h (into dur ps).items refl)
expr_back (weekday_expression_after w dur) ps h = ap (weekday_expression_after w) (put_back dur ps h (into dur ps).items refl)
expr_back (before dur d) ps h = ap (λ (x : Duration). before x d) (put_back dur ps h (into dur ps).items refl)
expr_back (after dur d) ps h = ap (λ (x : Duration). after x d) (put_back dur ps h (into dur ps).items refl)
expr_back (weekday w) ps h = refl
expr_back empty ps h = refl

links_append : (ks js : List Link) (l : List Slot) (x : DateTime) → links_from (ks ++ js) l x ≡ links_from ks l (links_from js l x)
links_append [] js l x = refl
links_append (k ∷ ks) js l x = ap (around k.back (row_duration (slice k.from k.to l))) (links_append ks js l x)

-- room for k parts, and links for them, inside the links of a reading
record Holds (r : Chain) (k : ℕ) : Type 0 where
  parts : r.parts.n + k ≤ length r.parts.items
  links : r.m + k ≤ length r.links

-- a duration has a part
pub some : (d : Duration) → 0 < size d
some (part p) = omega arith
some (concat p d) = omega arith

-- one link more around a tree
module _ (back : Bool) (dur : Duration) (x : DateTime) (r : Chain) where
  inner : Chain
  inner = linked_parts back (into dur r.parts) r

  all : List Slot
  all = (chain_from inner x).parts.items

  link_back :
      Holds r (size dur + size_tree x) →
      links_from (take inner.m inner.links) all x ≡ links_from (take r.m r.links) all (around back dur x)
  unfolding inner all
  link_back h =
      let a : r.parts.n + size dur ≤ length r.parts.items = omega arith in
      let b : r.m < length r.links = omega (arith, some dur) in
      let link : Link = record { back = back; from = r.parts.n; to = (into dur r.parts).n } in
      let one : take (r.m + 1) (set r.links r.m link) ≡ take r.m r.links ++ (link ∷ []) =
      rw (add-one, take-suc-set r.links r.m link b) in
      let same = tree_keeps x inner (into dur r.parts).n (omega arith) in
      ap (λ (ks : List Link). links_from ks all x) one
      ∙ links_append (take r.m r.links) (link ∷ []) all x
      ∙ ap (λ (d : Duration). links_from (take r.m r.links) all (around back d x)) (put_back dur r.parts a all same)

  holds_inner : Holds r (size dur + size_tree x) → Holds inner (size_tree x)
  unfolding inner
  holds_inner h =
      let link : Link = record { back = back; from = r.parts.n; to = (into dur r.parts).n } in
      record {
        parts = omega (arith, into_n dur r.parts, into_length dur r.parts);
        links = omega (arith, some dur, length-set r.links r.m link);
      }

-- what is read inside the links of a reading stands for the tree inside those links
tree_back : (x : DateTime) (r : Chain) → Holds r (size_tree x) →
    tree_of (chain_from r x) ≡ links_from (take r.m r.links) (chain_from r x).parts.items x
unfolding tree_of inner all
tree_back (date_time e t) r h =
    ap (λ (d : DateExpr). links_from (take r.m r.links) (into_expr e r.parts).items (date_time d t))
    (expr_back e r.parts h.parts)
tree_back (time_date t e) r h =
    ap (λ (d : DateExpr). links_from (take r.m r.links) (into_expr e r.parts).items (time_date t d))
    (expr_back e r.parts h.parts)
tree_back (duration_after dur x) r h = tree_back x (inner false dur x r) (holds_inner false dur x r h) ∙ link_back false dur x r h
tree_back (duration_before dur x) r h = tree_back x (inner true dur x r) (holds_inner true dur x r h) ∙ link_back true dur x r h
tree_back now r h = refl

-- the tree of a chain
pub decoded : (x : DateTime) → size_tree x ≤ 21 → tree_of (chain_of x) ≡ x
decoded x h = tree_back x blank (record { parts = omega arith; links = omega arith })

-- a reading has the parts of its tree behind those that were there
pub tree_count : (x : DateTime) (r : Chain) → (chain_from r x).parts.n ≡ r.parts.n + size_tree x
tree_count (date_time e t) r = into_expr_n e r.parts
tree_count (time_date t e) r = into_expr_n e r.parts
tree_count (duration_after dur x) r =
    let a = tree_count x (linked_parts false (into dur r.parts) r) in
    let b = into_n dur r.parts in
    omega arith
tree_count (duration_before dur x) r =
    let a = tree_count x (linked_parts true (into dur r.parts) r) in
    let b = into_n dur r.parts in
    omega arith
tree_count now r = omega arith
