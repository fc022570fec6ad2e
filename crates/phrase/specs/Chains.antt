-- The chain that stands for a tree: links, outermost first, and the base; their durations are rows of parts, one behind the other.
use Rattle.std.specs.Prelude.{ℕ, ◌+◌, Bool, true, false, List, [], ◌∷◌, set, take, replicate}
use Rattle.std.proofs.Math.Seq.{slice}
use Rattle.dates.specs.Durations.{Duration, part, concat, into, size}
use Rattle.dates.specs.declared.duration.Part.TheVariants.{Article}
use Rattle.dates.specs.declared.duration.Parts.{Parts}
use Rattle.dates.specs.declared.duration.Slot.{Slot}
use Rattle.dates.specs.declared.time.Time.{Time}
use Rattle.dates.specs.declared.time.Time.TheVariants.{Empty as NoTime}
use Rattle.dates.specs.declared.units.Unit.TheVariants.{Day}
use Rattle.expressions.specs.Shapes.{shape, into_expr, expr_from, size_expr}
use Rattle.phrase.specs.Tree.{DateTime, date_time, time_date, duration_after, duration_before, now, around}
use Rattle.phrase.specs.declared.chain.Base.{Base}
use Rattle.phrase.specs.declared.chain.Base.TheVariants.{Now, DateTime as DatedBase, TimeDate as TimedBase}
use Rattle.phrase.specs.declared.chain.Link.{Link}
use Rattle.phrase.specs.declared.chain.Chain.{Chain}

-- one link more, with its duration's parts behind those that are there
abbrev pub linked_parts : Bool → Parts → Chain → Chain
linked_parts back ps r =
    record {
      base = r.base;
      time = r.time;
      parts = ps;
      own = r.own;
      m = r.m + 1;
      links = set r.links r.m (record { back = back; from = r.parts.n; to = ps.n });
    }

-- the base, with its own parts behind those that are there
abbrev pub based : Base → Time → Parts → Chain → Chain
based b t ps r = record { base = b; time = t; parts = ps; own = r.parts.n; m = r.m; links = r.links }

-- a tree inside the links of a reading
abbrev pub chain_from : Chain → DateTime → Chain
chain_from r (date_time e t) = based (DatedBase (shape e)) t (into_expr e r.parts) r
chain_from r (time_date t e) = based (TimedBase (shape e)) t (into_expr e r.parts) r
chain_from r (duration_after dur x) = chain_from (linked_parts false (into dur r.parts) r) x
chain_from r (duration_before dur x) = chain_from (linked_parts true (into dur r.parts) r) x
chain_from r now = based Now NoTime r.parts r

-- a part that no reading has read
abbrev pub blank_slot : Slot
blank_slot = record { part = Article Day }

-- a link of no parts
abbrev pub blank_link : Link
blank_link = record { back = false; from = 0; to = 0 }

-- no links, no parts, and now for the base
abbrev pub blank : Chain
blank =
    record {
      base = Now;
      time = NoTime;
      parts = record { n = 0; items = replicate 21 blank_slot };
      own = 0;
      m = 0;
      links = replicate 21 blank_link;
    }

-- the chain of a tree
abbrev pub chain_of : DateTime → Chain
chain_of x = chain_from blank x

-- back again: the duration of a row of parts with a first one
abbrev pub duration_from : Slot → List Slot → Duration
duration_from s [] = part s.part
duration_from s (x ∷ xs) = concat s.part (duration_from x xs)

-- the duration of a row of parts
abbrev pub row_duration : List Slot → Duration
row_duration [] = part blank_slot.part
row_duration (s ∷ ss) = duration_from s ss

-- the base with its time and its own duration
abbrev pub base_from : Base → Time → Duration → DateTime
base_from Now t dur = now
base_from (DatedBase e) t dur = date_time (expr_from e dur) t
base_from (TimedBase e) t dur = time_date t (expr_from e dur)

-- what the links of a chain stand around
abbrev pub base_of : Chain → DateTime
base_of r = base_from r.base r.time (row_duration (slice r.own r.parts.n r.parts.items))

-- links, outermost first, around a base
abbrev pub links_from : List Link → List Slot → DateTime → DateTime
links_from [] items x = x
links_from (k ∷ ks) items x = around k.back (row_duration (slice k.from k.to items)) (links_from ks items x)

-- the tree that a chain stands for: `decoded` says that tree_of (chain_of x) ≡ x where x has at most 21 parts
unfoldable pub tree_of : Chain → DateTime
tree_of r = links_from (take r.m r.links) r.parts.items (base_of r)

-- the parts of a tree: `few` says that three lexemes are taken for each
abbrev pub size_tree : DateTime → ℕ
size_tree (date_time e t) = size_expr e
size_tree (time_date t e) = size_expr e
size_tree (duration_after dur x) = size dur + size_tree x
size_tree (duration_before dur x) = size dur + size_tree x
size_tree now = 0
