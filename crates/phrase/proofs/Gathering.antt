-- What is gathered, link after link, is the chain of the tree.
use Prim.Native.Nat.{ℕ, ◌+◌, ◌*◌, ◌≤◌, ◌<◌}
use native.Mathlib.Omega.{arith}
use mathlib.Core.Path.{◌≡◌, refl, ap}
use mathlib.Core.Bool.{Bool, true, false, cond}
use mathlib.Core.List.{List}
use lib.Dec.{ltb}
use lib.ListN.{length, drop, set, length-drop}
use lib.Seq.{drop-drop}
use Rattle.lexer.specs.declared.reading.Reading.{Reading}
use Rattle.dates.specs.Parsed.{Parsed, is, nothing, overflow}
use Rattle.dates.specs.Durations.{Duration, into, duration_of, rowed}
use Rattle.dates.specs.declared.duration.Parts.{Parts}
use Rattle.dates.specs.declared.duration.Rowed.{Rowed}
use Rattle.dates.specs.declared.time.Time.TheVariants.{Empty}
use Rattle.dates.proofs.Durations.{duration_bounds, into_n}
use Rattle.expressions.specs.Tree.{DateExpr, date, date_relative, date_expression_after, date_expression_before, unit_relative}
use Rattle.expressions.specs.Tree.{relative_weekday, weekday_relative, weekday_expression_before, weekday_expression_after, before, after, weekday, empty}
use Rattle.expressions.specs.Shapes.{shape, has_duration, own_of, into_expr, OwnStands}
use Rattle.phrase.specs.Tree.{DateTime, date_time, time_date, duration_after, duration_before, now, around}
use Rattle.phrase.specs.DateTimes.{date_time_of}
use Rattle.phrase.specs.Chains.{linked_parts, chain_from, chain_of, blank}
use Rattle.phrase.specs.Outlines.{link_taken, outline, outline_answer, kept, gathered, is_back, with_own}
use Rattle.phrase.specs.declared.chain.Base.TheVariants.{Now}
use Rattle.phrase.specs.declared.chain.Link.{Link}
use Rattle.phrase.specs.declared.chain.Chain.{Chain}
use Rattle.phrase.specs.declared.gather.Gathered.{Gathered}
use Rattle.std.specs.Prelude.{Some, Ok}
use Rattle.phrase.specs.declared.date_time.Outline.{Outline}
use Rattle.dates.proofs.Each.{Each}
use Rattle.phrase.proofs.Stands.{LinkStands, TreeStands, TreeHolds, date_time_holds}
use Rattle.phrase.proofs.Outlining.{around_outline}
use Rattle.phrase.proofs.Decoded.{some}

-- a reading of i links so far
abbrev held : Parts → List Link → ℕ → Chain
held ps ks i = record { base = Now; time = Empty; parts = ps; own = 0; m = i; links = ks }

-- what is gathered up to the place at, and what is left: a tree whose outline is that of the whole
pub record Gathering (reading : Reading) (l : List ℕ) (k : ℕ) (o : Outline) (goal : Chain) (ps : Parts) (ks : List Link) (i at : ℕ) : Type 0 where
  pub left : DateTime
  pub stands : TreeStands reading (drop at l) left
  pub outlined : outline reading k i (drop at l) left ≡ o
  pub flattened : chain_from (held ps ks i) left ≡ goal
  pub within : at ≤ length l
  pub room : 3 * ps.n + length l ≤ 64 + at
  pub few : i ≤ ps.n

-- the same of what is kept of a reading of l
pub record Gathers (reading : Reading) (l : List ℕ) (n : ℕ) (o : Outline) (ps : Parts) (ks : List Link) (i at : ℕ) : Type 0 where
  pub tree : DateTime
  pub taken : ℕ
  pub read : kept n (date_time_of reading l) ≡ is tree taken
  pub gathering : Gathering reading l taken o (chain_of tree) ps ks i at

-- nothing yet
pub begin : (reading : Reading) (l : List ℕ) (n : ℕ) {o : Outline} → length l ≤ 64 → Ok (Some o) ≡ outline_answer reading l (kept n (date_time_of reading l))
    → Gathers reading l n o blank.parts blank.links 0 0
begin reading l n {o} h answer = go (date_time_of reading l) refl (date_time_holds reading l) answer
  where
    go : (w : Parsed DateTime) → date_time_of reading l ≡ w → Each (TreeHolds reading l) w → Ok (Some o) ≡ outline_answer reading l (kept n w) →
        Gathers reading l n o blank.parts blank.links 0 0
    go (is x t) read holds answer =
        record {
          tree = cond (ltb t n) now x;
          taken = t;
          read = rw read;
          gathering = record {
            left = cond (ltb t n) now x;
            stands = only (ltb t n);
            outlined = cc;
            flattened = refl;
            within = omega arith;
            room = omega arith;
            few = omega arith;
          };
        }
      where
        only : (b : Bool) → TreeStands reading l (cond b now x)
        only true = tt
        only false = holds.bounds.stands
    go nothing read holds answer = cc
    go overflow read holds answer = cc

-- a tree with links still to come
record LinkLeft (x : DateTime) : Type 0 where
  back : Bool
  duration : Duration
  inner : DateTime
  same : x ≡ around back duration inner

link_left : (reading : Reading) (x : DateTime) (k : ℕ) (i : ℕ) (l : List ℕ) → i < (outline reading k i l x).m → LinkLeft x
link_left reading (date_time e t) k i l h = absurd (omega arith)
link_left reading (time_date t e) k i l h = absurd (omega arith)
link_left reading (duration_after dur x) k i l h = record { back = false; duration = dur; inner = x; same = refl }
link_left reading (duration_before dur x) k i l h = record { back = true; duration = dur; inner = x; same = refl }
link_left reading now k i l h = absurd (omega arith)

around_stood : (reading : Reading) (back : Bool) (dur : Duration) (x : DateTime) (l : List ℕ) → TreeStands reading l (around back dur x) →
    LinkStands reading l back dur (link_taken reading l) × (link_taken reading l ≤ length l) × TreeStands reading (drop (link_taken reading l) l) x
around_stood reading true dur x l h = h
around_stood reading false dur x l h = h

around_chain : (back : Bool) (dur : Duration) (x : DateTime) (r : Chain) →
    chain_from r (around back dur x) ≡ chain_from (linked_parts back (into dur r.parts) r) x
around_chain true dur x r = refl
around_chain false dur x r = refl

module _ {reading : Reading} {l : List ℕ} {k : ℕ} {o : Outline} {goal : Chain} {ps : Parts} {ks : List Link} {i at : ℕ}
    (g : Gathering reading l k o goal ps ks i at) where
  -- one link more, with the row x that its duration gave, and its direction
  pub one_link : i < o.m → {x : Rowed} {back : Bool} {m : List ℕ} → m ≡ drop at l → x ≡ rowed ps (duration_of reading m) → back ≡ is_back m x.end →
      Gathering reading l k o goal x.parts (set ks i (record { back = back; from = ps.n; to = x.parts.n })) (i + 1) (at + (x.end + 1))
  one_link more here row direction =
      let x = link_left reading g.left k i (drop at l) (rw g.outlined more) in
      let s = around_stood reading x.back x.duration x.inner (drop at l) (rw x.same at g.stands) in
      let b = duration_bounds reading (drop at l) s.0.reading in
      let n = into_n x.duration ps in
      let p = some x.duration in
      let lexemes = length-drop at l in
      let one = s.0.one in
      let same : at + link_taken reading (drop at l) ≡ at + (s.0.taken + 1) = omega arith in
      let there = rw same at (drop-drop (link_taken reading (drop at l)) at l) in
      rw (direction, row, here, s.0.reading, s.0.direction) (record {
        left = x.inner;
        stands = rw there at s.2;
        outlined = rw (← there, ← (around_outline reading x.back x.duration x.inner k i (drop at l)), ← x.same) g.outlined;
        flattened = rw (← (around_chain x.back x.duration x.inner (held ps ks i)), ← x.same) g.flattened;
        within = omega arith;
        room = omega arith;
        few = omega arith;
      })

-- the parts of a date expression's duration are those at its place
own_into : (reading : Reading) (x : DateExpr) (l : List ℕ) (ps : Parts) → OwnStands reading (own_of x) l →
    cond (has_duration (shape x)) (rowed ps (duration_of reading l)).parts ps ≡ into_expr x ps
own_into reading (date d) l ps h = refl
own_into reading (date_relative d s u) l ps h = refl
own_into reading (date_expression_after d dur) l ps h = rw h.reading
own_into reading (date_expression_before d dur) l ps h = rw h.reading
own_into reading (unit_relative s u) l ps h = refl
own_into reading (relative_weekday s w) l ps h = refl
own_into reading (weekday_relative w s u) l ps h = refl
own_into reading (weekday_expression_before w dur) l ps h = rw h.reading
own_into reading (weekday_expression_after w dur) l ps h = rw h.reading
own_into reading (before dur d) l ps h = rw h.reading
own_into reading (after dur d) l ps h = rw h.reading
own_into reading (weekday w) l ps h = refl
own_into reading empty l ps h = refl

-- the links of an outline are those in front and those of the tree
links_most : (reading : Reading) (x : DateTime) (k : ℕ) (i : ℕ) (l : List ℕ) → i ≤ (outline reading k i l x).m
links_most reading (date_time e t) k i l = omega arith
links_most reading (time_date t e) k i l = omega arith
links_most reading (duration_after dur x) k i l = let h = links_most reading x k (i + 1) (drop (link_taken reading l) l) in omega arith
links_most reading (duration_before dur x) k i l = let h = links_most reading x k (i + 1) (drop (link_taken reading l) l) in omega arith
links_most reading now k i l = omega arith

-- with no link left, the base and its own duration's parts are all
pub record Based (r : Reading) (l : List ℕ) (k : ℕ) (o : Outline) (goal : Chain) (ps : Parts) (ks : List Link) (i at : ℕ) : Type 0 where
  pub reading :
      record {
        base = o.base;
        time = o.time;
        parts = with_own r o.base (drop (at + o.own) l) ps;
        own = ps.n;
        m = o.m;
        links = ks;
      } ≡ goal
  pub count : o.taken ≡ k
  pub within : at + o.own ≤ length l
  pub links : o.m ≡ i

module _ {reading : Reading} {l : List ℕ} {k : ℕ} {o : Outline} {goal : Chain} {ps : Parts} {ks : List Link} {i at : ℕ} where
  pub base_left : Gathering reading l k o goal ps ks i at → o.m ≤ i → Based reading l k o goal ps ks i at
  base_left g done = rw (← g.outlined) (go g.left g.stands g.flattened (rw (← g.outlined) at done))
    where
      own : (e : DateExpr) (p : ℕ) → OwnStands reading (own_of e) (drop p (drop at l)) →
          cond (has_duration (shape e)) (rowed ps (duration_of reading (drop (at + p) l))).parts ps ≡ into_expr e ps
      own e p h = own_into reading e (drop (at + p) l) ps (rw (drop-drop p at l) at h)

      go : (x : DateTime) → TreeStands reading (drop at l) x → chain_from (held ps ks i) x ≡ goal → (outline reading k i (drop at l) x).m ≤ i →
          Based reading l k (outline reading k i (drop at l) x) goal ps ks i at
      go (date_time e t) s f d =
          let left = length-drop at l in
          record { reading = rw (own e _ s.stands) f; count = refl; within = omega arith; links = refl }
      go (time_date t e) s f d =
          let left = length-drop at l in
          record { reading = rw (own e _ s.stands) f; count = refl; within = omega arith; links = refl }
      go (duration_after dur x) s f d = let h = links_most reading x k (i + 1) (drop (link_taken reading (drop at l)) (drop at l)) in absurd (omega arith)
      go (duration_before dur x) s f d = let h = links_most reading x k (i + 1) (drop (link_taken reading (drop at l)) (drop at l)) in absurd (omega arith)
      go now s f d = record { reading = f; count = refl; within = omega arith; links = refl }

  -- and so the whole is gathered
  all_gathered : Based reading l k o goal ps ks i at → {all : Parts} {m : List ℕ} → m ≡ drop (at + o.own) l → all ≡ with_own reading o.base m ps →
      ◌≡◌ {A = Gathered}
      (record {
        chain = record { base = o.base; time = o.time; parts = all; own = ps.n; m = o.m; links = ks };
        taken = o.taken;
      })
      (record { chain = goal; taken = k })
  all_gathered b here own = rw (own, here, b.reading, b.count)

module _ {reading : Reading} {l : List ℕ} {n : ℕ} {o : Outline} {ps : Parts} {ks : List Link} {i at : ℕ} (g : Gathers reading l n o ps ks i at) where
  -- one link more
  pub link_gathered : i < o.m → {x : Rowed} {back : Bool} {m : List ℕ} → m ≡ drop at l → x ≡ rowed ps (duration_of reading m) → back ≡ is_back m x.end →
      Gathers reading l n o x.parts (set ks i (record { back = back; from = ps.n; to = x.parts.n })) (i + 1) (at + (x.end + 1))
  link_gathered more here row direction =
      record { tree = g.tree; taken = g.taken; read = g.read; gathering = one_link g.gathering more here row direction }

  -- none more
  pub gathered_all : o.m ≤ i → {all : Parts} {m : List ℕ} → m ≡ drop (at + o.own) l → all ≡ with_own reading o.base m ps →
      Ok (Some (record { chain = record { base = o.base; time = o.time; parts = all; own = ps.n; m = o.m; links = ks }; taken = o.taken }))
      ≡ gathered (kept n (date_time_of reading l))
  gathered_all done here own = rw g.read (ap (λ x. Ok (Some x)) (all_gathered (base_left g.gathering done) here own))
