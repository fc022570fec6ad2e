-- Laws of durations: the turns of `duration_of` are enough, how many lexemes and parts it has, and what the code's answer says of it.
use mathlib.Core.Path.{◌≡◌, refl, sym, ◌∙◌}
use mathlib.Core.Bool.{Bool, true, false, cond, ◌||◌}
use mathlib.Core.List.{List}
use Rattle.std.specs.Prelude.{Option, Some, None, Result, Ok, Err}
use Prim.Native.Nat.{ℕ, ◌+◌, ◌*◌, ◌≤◌, ◌<◌}
use native.Mathlib.Omega.{arith}
use lib.Dec.{ltb}
use lib.ListN.{length, drop, length-drop}
use lib.Seq.{get_or-drop, drop-drop}
use borrow.Author.Tests.{ltb-true, ltb-false, lt-ltb, le-ltb}
use Rattle.lexer.specs.Lexemes as lexeme
use Rattle.lexer.specs.declared.reading.Reading.{Reading}
use Rattle.numbers.specs.declared.Overflow.{Overflow}
use Rattle.numbers.specs.Answers.{overflow as large}
use Rattle.numbers.specs.Slices.{is_at}
use Rattle.numbers.proofs.Again.{again_is, again_keeps}
use Rattle.numbers.proofs.LexemeAt.{at_most, there}
use Rattle.dates.specs.Parsed.{Parsed, is, nothing, overflow, pick, if_let, and_then, parsed, Took}
use Rattle.dates.specs.Units.{is_article}
use Rattle.dates.specs.declared.duration.Part.{Part}
use Rattle.dates.specs.declared.duration.Parts.{Parts}
use Rattle.dates.specs.declared.duration.Span.{Span}
use Rattle.dates.specs.declared.duration.Rowed.{Rowed}
use Rattle.dates.specs.Durations.{Duration, part, concat, is_sub_daily, is_sub_daily_part, taken_answer, TakenCounted}
use Rattle.dates.specs.Durations.{specific_of, article_of, concrete_of}
use Rattle.dates.specs.Durations.{duration_turn, duration_of, pushed, into, size, rowed}
use Rattle.dates.proofs.Each.{Each, pick_each, then_each, if_let_each}
use Rattle.dates.proofs.Parsed.{found, nothing_took, pick_took, or-took, then_took}
use Rattle.dates.proofs.LexemesTaken.{num_took, unit_took, tested_article}

module _ {A B : Type 0} where
  -- what follows a reading is the same where it is the same within the reading's bounds
  pub then_same : (w : Parsed A) (f g : A → ℕ → Parsed B) {k n : ℕ} → Took w k n
      → ((v : A) (t : ℕ) → k ≤ t → t ≤ n → f v t ≡ g v t) → and_then w f ≡ and_then w g
  then_same (is v t) f g h same = same v t h.bounds.0 h.bounds.1
  then_same nothing f g h same = refl
  then_same overflow f g h same = refl

pub specific_took : (reading : Reading) (l : List ℕ) → Took (specific_of reading l) 2 (length l)
unfolding specific_of
specific_took reading l =
    then_took _ _ (num_took reading l) (λ num t a b.
    then_took _ _ (unit_took (drop t l)) (λ u k d e. record { bounds = let left = length-drop t l in (omega arith, omega arith) }))

pub article_took : (l : List ℕ) → Took (article_of l) 2 (length l)
unfolding article_of
article_took l =
    pick_took (is_article l) _ _
    (λ e. let some = rw e at (tested_article l refl).1 in
    then_took _ _ (unit_took (drop 1 l)) (λ u k a b. record { bounds = let left = length-drop 1 l in (omega arith, omega arith) }))
    (λ e. nothing_took)

-- a part has a number or an article, and a unit
pub concrete_took : (reading : Reading) (l : List ℕ) → Took (concrete_of reading l) 2 (length l)
unfolding concrete_of
concrete_took reading l = or-took _ _ (specific_took reading l) (article_took l)

step_agree : (reading : Reading) (D E : List ℕ → Parsed Duration) (l : List ℕ) → ((m : List ℕ) → length m < length l → D m ≡ E m)
    → duration_turn reading D l ≡ duration_turn reading E l
unfolding duration_turn
step_agree reading D E l agree =
    then_same (concrete_of reading l) _ _ (concrete_took reading l) (λ p t a b.
    rw (agree (drop (t + 1) l) (let left = length-drop (t + 1) l in omega arith)))

-- `Duration::parse` calls itself
pub duration_is : (reading : Reading) (l : List ℕ) → duration_of reading l ≡ duration_turn reading (duration_of reading) l
unfolding duration_of
duration_is reading l = again_is nothing (duration_turn reading) (step_agree reading) l

-- at least two and at most n lexemes, and three for each part but for the last one's connection
abbrev Sizes : ℕ → Duration → ℕ → Type 0
Sizes n d t = (2 ≤ t) × (t ≤ n) × (3 * size d ≤ t + 1)

step_sized : (reading : Reading) (D : List ℕ → Parsed Duration) → ((m : List ℕ) → Each (Sizes (length m)) (D m)) → (l : List ℕ)
    → Each (Sizes (length l)) (duration_turn reading D l)
unfolding duration_turn
step_sized reading D sized l =
    then_each (concrete_of reading l) _ (λ p t e. let b = found e (concrete_took reading l) in
    pick_each (is_at l t lexeme.And)
    (λ h. let left = length-drop (t + 1) l in let room = there (at_most l t lexeme.And) h in
    if_let_each (D (drop (t + 1) l)) _ _
    (λ d u f. let s = (rw f at (sized (drop (t + 1) l))).bounds in record { bounds = (omega arith, omega arith, omega arith) })
    (record { bounds = (omega arith, omega arith, omega arith) }))
    (λ h. record { bounds = (omega arith, omega arith, omega arith) }))

duration_sized : (reading : Reading) (l : List ℕ) → Each (Sizes (length l)) (duration_of reading l)
unfolding duration_of
duration_sized reading l = again_keeps nothing (duration_turn reading) (λ m w. Each (Sizes (length m)) w) (λ m. record { bounds = tt }) (step_sized reading) l

-- the bounds of a duration
pub duration_bounds : (reading : Reading) (l : List ℕ) {d : Duration} {t : ℕ} → duration_of reading l ≡ is d t → (2 ≤ t) × (t ≤ length l) × (3 * size d ≤ t + 1)
duration_bounds reading l e = (rw e at (duration_sized reading l)).bounds

-- the row has as many parts more as the duration
pub into_n : (d : Duration) (ps : Parts) → (into d ps).n ≡ ps.n + size d
into_n (part p) ps = refl
into_n (concat p d) ps = into_n d (pushed ps p) ∙ omega arith

taken_counted : (w : Parsed Duration) (n : ℕ) → Each (Sizes n) w → TakenCounted (taken_answer w) n
taken_counted (is d t) n h = let s = h.bounds in record { bounds = (omega arith, omega arith) }
taken_counted nothing n h = record { bounds = omega arith }
taken_counted overflow n h = record { bounds = omega arith }

-- the lexemes of a duration, once the answer is known
pub taken_found : {r : Result (Option Span) Overflow} {s : Span} {n : ℕ} → r ≡ Ok (Some s) → TakenCounted r n → (2 ≤ s.taken) × (s.taken ≤ n)
taken_found e h = (rw e at h).bounds

-- what `read_duration` promises
pub taken_promised : (reading : Reading) {r : Result (Option Span) Overflow} (l : List ℕ) → r ≡ taken_answer (duration_of reading l)
    → (r ≡ taken_answer (duration_of reading l)) × TakenCounted r (length l)
taken_promised reading l e = (e, rw e (taken_counted (duration_of reading l) (length l) (duration_sized reading l)))

-- the duration of which an answer says the lexemes taken
pub record TakenRead (w : Parsed Duration) (s : Span) : Type 0 where
  pub duration : Duration
  pub reading : w ≡ is duration s.taken
  pub sub-daily : is_sub_daily duration ≡ s.sub_daily

abbrev TakenSays : Result (Option Span) Overflow → Parsed Duration → Type 0
TakenSays (Ok (Some s)) w = TakenRead w s
TakenSays (Ok None) w = w ≡ nothing
TakenSays (Err e) w = w ≡ overflow

taken_answer_says : (w : Parsed Duration) → TakenSays (taken_answer w) w
taken_answer_says (is d t) = record { duration = d; reading = refl; sub-daily = refl }
taken_answer_says nothing = refl
taken_answer_says overflow = refl

-- what a caller learns of the reading w from the answer that it took apart
module _ {r : Result (Option Span) Overflow} (w : Parsed Duration) (answer : r ≡ taken_answer w) where
  taken_says : TakenSays r w
  taken_says = rw answer (taken_answer_says w)

  pub taken_read : {s : Span} → r ≡ Ok (Some s) → TakenRead w s
  taken_read e = rw e at taken_says

  pub taken_none : r ≡ Ok None → w ≡ nothing
  taken_none e = rw e at taken_says

  pub taken_overflow : {o : Overflow} → r ≡ Err o → w ≡ overflow
  taken_overflow e = rw e at taken_says

-- what a test finds behind the place a
at_drop : (l : List ℕ) (a t x : ℕ) → is_at (drop a l) t x ≡ is_at l (a + t) x
unfolding is_at
at_drop l a t x = rw (get_or-drop, go (ltb t (length (drop a l))) refl)
  where
    go : (b : Bool) → ltb t (length (drop a l)) ≡ b → ltb t (length (drop a l)) ≡ ltb (a + t) (length l)
    go true e = let h = ltb-true t _ e in let left = length-drop a l in e ∙ sym (lt-ltb (a + t) (length l) (omega arith))
    go false e = let h = ltb-false t _ e in let left = length-drop a l in e ∙ sym (le-ltb (a + t) (length l) (omega arith))

-- what a loop keeps of the parts that it passes, and what it answers where they end
pub record Passing (A R : Type 0) : Type 0 where
  pub add : A → Part → A
  pub all : Duration → A → A
  pub one : (p : Part) (a : A) → all (part p) a ≡ add a p
  pub more : (p : Part) (d : Duration) (a : A) → all (concat p d) a ≡ all d (add a p)
  pub ends : A → ℕ → R
  pub over : R

module _ {A R : Type 0} (k : Passing A R) where
  -- the answer, once the duration at the place at is read; `none` where there is none
  abbrev pub onward : Parsed Duration → ℕ → A → R → R
  onward (is d u) at a none = k.ends (k.all d a) (at + u)
  onward nothing at a none = none
  onward overflow at a none = k.over

module _ {A R : Type 0} (k : Passing A R) (reading : Reading) where
  -- the answer behind a part that ends at e
  abbrev pub joined : List ℕ → ℕ → A → R
  joined l e a = cond (is_at l e lexeme.And) (onward k (duration_of reading (drop (e + 1) l)) (e + 1) a (k.ends a e)) (k.ends a e)

  part_passed : (l : List ℕ) (at : ℕ) (a : A) (none : R) {p : Part} {t : ℕ} → concrete_of reading (drop at l) ≡ is p t →
      onward k (duration_of reading (drop at l)) at a none ≡ joined l (at + t) (k.add a p)
  unfolding duration_turn
  part_passed l at a none {p} {t} e =
      let same : at + (t + 1) ≡ at + t + 1 = omega arith in
      rw (duration_is reading (drop at l), e, at_drop l at t lexeme.And, drop-drop (t + 1) at l, same)
      (go (is_at l (at + t) lexeme.And) (duration_of reading (drop (at + t + 1) l)))
    where
      go : (b : Bool) (w : Parsed Duration) →
          onward k (pick b (if_let w (λ dur2 u. is (concat p dur2) (t + 1 + u)) (is (part p) t)) (is (part p) t)) at a none
          ≡ cond b (onward k w (at + t + 1) (k.add a p) (k.ends (k.add a p) (at + t))) (k.ends (k.add a p) (at + t))
      go true (is d u) = let same : at + (t + 1 + u) ≡ at + t + 1 + u = omega arith in rw (k.more p d a, same)
      go true nothing = rw (k.one p a)
      go true overflow = refl
      go false w = rw (k.one p a)

  -- the answer r, where a part is looked for at the place at
  pub record Looking (r : R) (l : List ℕ) (at : ℕ) (a : A) (none : R) : Type 0 where
    pub same : r ≡ onward k (duration_of reading (drop at l)) at a none
    pub within : at ≤ length l

  -- the answer r, behind a part that ends at e
  pub record Joined (r : R) (l : List ℕ) (e : ℕ) (a : A) : Type 0 where
    pub same : r ≡ joined l e a

  -- the code's answer w for the part at the place at: a part, none, or an overflow
  module _ {r none : R} {l m : List ℕ} {at : ℕ} {a : A} {w : Result (Option (Part × ℕ)) Overflow}
      (g : Looking r l at a none) (here : m ≡ drop at l) (answer : parsed w ≡ concrete_of reading m) where
    answered : {z : Result (Option (Part × ℕ)) Overflow} → w ≡ z → concrete_of reading (drop at l) ≡ parsed z
    answered e = rw (← here, ← answer, e)

    pub part_there : {p : Part} {t e : ℕ} {b : A} → w ≡ Ok (Some (p, t)) → at + t ≡ e → k.add a p ≡ b → Joined r l e b
    part_there found_part ends adds = rw (← ends, ← adds) (record { same = g.same ∙ part_passed l at a none (answered found_part) })

    pub part_none : w ≡ Ok None → r ≡ none
    unfolding duration_turn
    part_none found_none = g.same ∙ rw (duration_is reading (drop at l), answered found_none)

    pub part_over : {o : Overflow} → w ≡ Err o → r ≡ k.over
    unfolding duration_turn
    part_over found_over = g.same ∙ rw (duration_is reading (drop at l), answered found_over)

  -- an "and" behind it, or none
  module _ {r : R} {l : List ℕ} {e : ℕ} {a : A} {b : Bool} (g : Joined r l e a) (test : b ≡ is_at l e lexeme.And) where
    pub and-behind : b ≡ true → Looking r l (e + 1) a (k.ends a e)
    and-behind h =
        let here : is_at l e lexeme.And ≡ true = rw (← test) h in
        let room = there (at_most l e lexeme.And) here in
        record { same = rw (← test, h) at g.same; within = omega arith }

    pub no_and : b ≡ false → k.ends a e ≡ r
    no_and h = sym (rw (← test, h) at g.same)

pub or_assoc : (a b c : Bool) → a || (b || c) ≡ (a || b) || c
or_assoc true b c = refl
or_assoc false b c = refl

-- `read_duration` keeps whether there were hours or minutes
abbrev pub sub_daily_kept : Passing Bool (Result (Option Span) Overflow)
sub_daily_kept =
    record {
      add = λ b p. b || is_sub_daily_part p;
      all = λ d b. b || is_sub_daily d;
      one = λ p b. refl;
      more = λ p d b. or_assoc b (is_sub_daily_part p) (is_sub_daily d);
      ends = λ b e. Ok (Some (record { taken = e; sub_daily = b }));
      over = Err large;
    }

-- `with_parts` keeps the row
abbrev pub row_kept : Parts → Passing Parts Rowed
row_kept ps =
    record {
      add = pushed;
      all = into;
      one = λ p qs. refl;
      more = λ p d qs. refl;
      ends = λ qs e. record { parts = qs; end = e };
      over = record { parts = ps; end = 0 };
    }

-- from the front on
pub taken_looking : (reading : Reading) (l : List ℕ) → Looking sub_daily_kept reading (taken_answer (duration_of reading l)) l 0 false (Ok None)
taken_looking reading l = record { same = go (duration_of reading l); within = omega arith }
  where
    go : (w : Parsed Duration) → taken_answer w ≡ onward sub_daily_kept w 0 false (Ok None)
    go (is d t) = let e : 0 + t ≡ t = omega arith in rw e
    go nothing = refl
    go overflow = refl

pub row_looking : (reading : Reading) (ps : Parts) (l : List ℕ) → Looking (row_kept ps) reading (rowed ps (duration_of reading l)) l 0 ps (record { parts = ps; end = 0 })
row_looking reading ps l = record { same = go (duration_of reading l); within = omega arith }
  where
    go : (w : Parsed Duration) → rowed ps w ≡ onward (row_kept ps) w 0 ps (record { parts = ps; end = 0 })
    go (is d t) = let e : 0 + t ≡ t = omega arith in rw e
    go nothing = refl
    go overflow = refl
