-- Turn after turn: `date_time_of` is what it says it is, and what one turn of the code says of the outline.
use Prim.Native.Nat.{ℕ, ◌+◌, ◌≤◌, ◌<◌}
use native.Mathlib.Omega.{arith}
use mathlib.Core.Path.{◌≡◌, refl, ap, sym, ◌∙◌}
use mathlib.Core.Bool.{Bool, true, false}
use mathlib.Core.List.{List, []}
use lib.ListN.{length, drop, length-drop}
use lib.Seq.{drop-drop}
use Rattle.std.specs.Prelude.{Option, Some, None, Result, Ok, Err}
use Rattle.lexer.specs.declared.reading.Reading.{Reading}
use Rattle.numbers.specs.declared.Overflow.{Overflow}
use Rattle.numbers.specs.Answers.{overflow as large}
use Rattle.numbers.proofs.Again.{again_is}
use Rattle.dates.specs.Parsed.{Parsed, is, nothing, overflow, and_then}
use Rattle.dates.specs.Durations.{Duration}
use borrow.Author.Tests.{lt-ltb, le-ltb}
use Rattle.phrase.specs.Tree.{DateTime, date_time, time_date, duration_after, duration_before, now, around}
use Rattle.phrase.specs.DateTimes.{Turn, whole, ago, link, turn_of}
use Rattle.phrase.specs.DateTimes.{again_of, date_time_step, date_time_of}
use Rattle.phrase.specs.Outlines.{link_taken, outline, outline_answer, turn_answer, kept}
use Rattle.phrase.specs.declared.date_time.Outline.{Outline}
use Rattle.phrase.specs.declared.date_time.Turn.{Turn as TurnTaken}
use Rattle.phrase.specs.declared.date_time.Turn.TheVariants.{Whole, Ago, Link}
use Rattle.dates.proofs.Each.{Each}
use Rattle.phrase.proofs.Stands.{TurnHolds, Bare, turn_holds, link_taken_lem}

step_agree : (reading : Reading) (D E : List ℕ → Parsed DateTime) (l : List ℕ) → ((m : List ℕ) → length m < length l → D m ≡ E m) →
    date_time_step reading D l ≡ date_time_step reading E l
unfolding date_time_step
step_agree reading D E l agree = go (turn_of reading l) (turn_holds reading l)
  where
    go : (w : Parsed Turn) → Each (TurnHolds reading l) w → and_then w (again_of D l) ≡ and_then w (again_of E l)
    go (is (whole x) t) h = refl
    go (is (ago dur) t) h = refl
    go (is (link back dur) t) h = let b = h.bounds in let left = length-drop t l in rw (agree (drop t l) (omega arith))
    go nothing h = refl
    go overflow h = refl

-- `DateTime::parse` calls itself
pub date_time_is : (reading : Reading) (l : List ℕ) → date_time_of reading l ≡ date_time_step reading (date_time_of reading) l
unfolding date_time_of
date_time_is reading l = again_is nothing (date_time_step reading) (step_agree reading) l

-- the outline of what is read at l, behind m links of at lexemes
abbrev pub linked : Reading → ℕ → ℕ → List ℕ → Parsed DateTime → Result (Option Outline) Overflow
linked reading m at l (is x u) = Ok (Some (outline reading (at + u) m l x))
linked reading m at l nothing = Ok None
linked reading m at l overflow = Err large

-- m links of at lexemes are passed
pub record Turning (reading : Reading) (l : List ℕ) (at m : ℕ) : Type 0 where
  pub outlined : outline_answer reading l (date_time_of reading l) ≡ linked reading m at (drop at l) (date_time_of reading (drop at l))
  pub within : at ≤ length l
  pub few : m ≤ at

-- none yet
pub unlinked : (reading : Reading) (l : List ℕ) → Turning reading l 0 0
unlinked reading l = record { outlined = go (date_time_of reading l); within = omega arith; few = omega arith }
  where
    go : (w : Parsed DateTime) → outline_answer reading l w ≡ linked reading 0 0 l w
    go (is x t) = let e : 0 + t ≡ t = omega arith in rw e
    go nothing = refl
    go overflow = refl

-- a base is the same with other links and another count
whole_outline : (reading : Reading) (x : DateTime) → Bare x → (l : List ℕ) (k j m n : ℕ) →
    let o = outline reading j n l x in outline reading k m l x ≡ record { taken = k; base = o.base; time = o.time; own = o.own; m = m }
whole_outline reading (date_time e t) h l k j m n = refl
whole_outline reading (time_date t e) h l k j m n = refl
whole_outline reading (duration_after dur x) h l k j m n = absurd h
whole_outline reading (duration_before dur x) h l k j m n = absurd h
whole_outline reading now h l k j m n = refl

pub around_outline : (reading : Reading) (back : Bool) (dur : Duration) (x : DateTime) (k m : ℕ) (l : List ℕ) →
    outline reading k m l (around back dur x) ≡ outline reading k (m + 1) (drop (link_taken reading l) l) x
around_outline reading true dur x k m l = refl
around_outline reading false dur x k m l = refl

-- what the code's answer for a turn says of the outline
abbrev Said : Reading → List ℕ → ℕ → ℕ → Result (Option (TurnTaken × ℕ)) Overflow → Type 0
Said reading l at m (Ok (Some (Whole b time own, t))) =
    (outline_answer reading l (date_time_of reading l) ≡ Ok (Some (record { taken = at + t; base = b; time = time; own = own; m = m }))) × (at + t ≤ length l)
Said reading l at m (Ok (Some (Ago, t))) =
    (outline_answer reading l (date_time_of reading l) ≡ Ok (Some (outline reading (at + t) (m + 1) [] now))) × (at + t ≤ length l) × (m < at + t)
Said reading l at m (Ok (Some (Link, t))) = Turning reading l (at + t) (m + 1)
Said reading l at m (Ok None) = outline_answer reading l (date_time_of reading l) ≡ Ok None
Said reading l at m (Err o) = outline_answer reading l (date_time_of reading l) ≡ Err large

module _ {reading : Reading} {l : List ℕ} {at m : ℕ} (g : Turning reading l at m) where
  abbrev left : List ℕ
  left = drop at l

  behind : (back : Bool) (dur : Duration) (t : ℕ) → link_taken reading left ≡ t → (w : Parsed DateTime) →
      linked reading m at left (and_then w (λ x u. is (around back dur x) (t + u))) ≡ linked reading (m + 1) (at + t) (drop t left) w
  behind back dur t e (is x u) =
      let same : at + (t + u) ≡ at + t + u = omega arith in
      rw (around_outline reading back dur x (at + (t + u)) m left, e, same)
  behind back dur t e nothing = refl
  behind back dur t e overflow = refl

  turn_said : (w : Parsed Turn) → Each (TurnHolds reading left) w →
      outline_answer reading l (date_time_of reading l) ≡ linked reading m at left (and_then w (again_of (date_time_of reading) left)) → Said reading l at m (turn_answer reading left w)
  turn_said (is x t) h e = go x h.bounds e
    where
      go : (x : Turn) → TurnHolds reading left x t → outline_answer reading l (date_time_of reading l) ≡ linked reading m at left (again_of (date_time_of reading) left x t) →
          Said reading l at m (turn_answer reading left (is x t))
      go (whole x) h e =
          let all = length-drop at l in
          (e ∙ ap (λ o. Ok (Some o)) (whole_outline reading x h.stands.1 left (at + t) t m 0), omega arith)
      go (ago dur) h e = let all = length-drop at l in (e, omega arith, omega arith)
      go (link back dur) h e =
          let all = length-drop at l in
          let more = e ∙ behind back dur t (link_taken_lem h.stands) (date_time_of reading (drop t left)) in
          record { outlined = rw (drop-drop t at l) at more; within = omega arith; few = omega arith }
  turn_said nothing h e = e
  turn_said overflow h e = e

  -- what a turn that the code took apart says
  pub turn_learnt : {n : List ℕ} {r z : Result (Option (TurnTaken × ℕ)) Overflow} → n ≡ drop at l → r ≡ turn_answer reading n (turn_of reading n) → r ≡ z → Said reading l at m z
  unfolding date_time_step
  turn_learnt same answer e =
      rw (← e, answer, same) (turn_said (turn_of reading left) (turn_holds reading left) (g.outlined ∙ ap (linked reading m at left) (date_time_is reading left)))

  module _ {n : List ℕ} {r : Result (Option (TurnTaken × ℕ)) Overflow} (same : n ≡ drop at l) (answer : r ≡ turn_answer reading n (turn_of reading n))
      {q : Option (TurnTaken × ℕ)} (found : r ≡ Ok q) where
    -- a turn of t lexemes
    pub turn_taken : {x y : TurnTaken} {t : ℕ} → q ≡ Some (x, t) → x ≡ y → Said reading l at m (Ok (Some (y, t)))
    turn_taken {y = y} {t = t} some turn = turn_learnt {z = Ok (Some (y, t))} same answer (rw (found, some, turn))

    -- it takes no more than there is
    pub turn_within : {x : TurnTaken} {t : ℕ} → q ≡ Some (x, t) → at + t ≤ length l
    turn_within {x} {t} some = go x (turn_taken some refl)
      where
        go : (x : TurnTaken) → Said reading l at m (Ok (Some (x, t))) → at + t ≤ length l
        go (Whole b time own) h = h.1
        go Ago h = h.1
        go Link h = h.within

    -- none
    pub turn_none : q ≡ None → Ok None ≡ outline_answer reading l (date_time_of reading l)
    turn_none none = sym (turn_learnt {z = Ok None} same answer (rw (found, none)))

-- an outline has the count of what was read
outline_count : (reading : Reading) (x : DateTime) (k m : ℕ) (l : List ℕ) → (outline reading k m l x).taken ≡ k
outline_count reading (date_time e t) k m l = refl
outline_count reading (time_date t e) k m l = refl
outline_count reading (duration_after dur x) k m l = outline_count reading x k (m + 1) (drop (link_taken reading l) l)
outline_count reading (duration_before dur x) k m l = outline_count reading x k (m + 1) (drop (link_taken reading l) l)
outline_count reading now k m l = refl

-- with lexemes left, only the count is kept
pub kept_left : (reading : Reading) (l : List ℕ) (w : Parsed DateTime) (n : ℕ) {o : Outline} → Ok (Some o) ≡ outline_answer reading l w → o.taken < n →
    outline_answer reading l (kept n w) ≡ Ok (Some (outline reading o.taken 0 [] now))
kept_left reading l (is x u) n {o} e h =
    let same : o ≡ outline reading u 0 l x = cc in
    let count : o.taken ≡ u = rw same (outline_count reading x u 0 l) in
    rw (count, lt-ltb u n (omega arith))
kept_left reading l nothing n e h = cc
kept_left reading l overflow n e h = cc

-- with none left all is kept
pub kept_all : (reading : Reading) (l : List ℕ) (w : Parsed DateTime) (n : ℕ) {o : Outline} → Ok (Some o) ≡ outline_answer reading l w → n ≤ o.taken →
    outline_answer reading l (kept n w) ≡ Ok (Some o)
kept_all reading l (is x u) n {o} e h =
    let same : o ≡ outline reading u 0 l x = cc in
    let count : o.taken ≡ u = rw same (outline_count reading x u 0 l) in
    rw (le-ltb u n (omega arith), same)
kept_all reading l nothing n e h = cc
kept_all reading l overflow n e h = cc
