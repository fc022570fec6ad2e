-- A phrase at a now: where it is read and where not, and what every answer is.
use Prim.Native.Nat.{ℕ, ◌≤◌, min}
use native.Mathlib.Omega.{arith}
use mathlib.Core.Path.{◌≡◌, refl, sym, ap, ◌∙◌}
use mathlib.Core.Bool.{Bool, true, false, cond}
use mathlib.Core.List.{List}
use lib.ListN.{length}
use Rattle.refusals.specs.Table.{number_of}
use Rattle.refusals.specs.declared.Reason.TheVariants.{InvalidMoment}
use Rattle.refusals.specs.Answers.{Answer, given, refused, refusal_at, refuse, and_then}
use Rattle.refusals.specs.declared.Refusal.{Refusal}
use Rattle.refusals.proofs.Holds.{Holds, of_given, of_refusal, Bounded, given_holds, refusal_holds}
use Rattle.lexer.specs.Keywords.{words_in}
use Rattle.lexer.specs.declared.reading.Reading.{Reading}
use Rattle.calendar.specs.Moments.{IsMoment, Outcome, refused as unreached, is_moment}
use Rattle.calendar.specs.declared.moments.Moment.{Moment}
use Rattle.calendar.proofs.Valid.{test_range, test_moment}
use Rattle.dates.specs.declared.time.Time.TheVariants.{Empty as NoTime}
use Rattle.phrase.specs.Read.{TreeRead, ReadPhrase, read_of}
use Rattle.phrase.proofs.Phrases.{ReadWhole, read_holds}
use Rattle.evaluation.specs.Evaluate.{evaluate}
use Rattle.answer.specs.Answer.{placed, reading_at, answer_of}
use Rattle.answer.proofs.Leads.{Leads, leads, refuses, time_of, has_sub_daily, AtSecond, SameTime}
use Rattle.answer.proofs.Leads.{valid_leads, second_leads, clocked_leads, time_of_day_leads}

module _ (reading : Reading) (s : List ℕ) {x : TreeRead} (read : read_of reading (words_in reading) s ≡ given x) where
  -- a phrase that is read is answered by its reading
  pub by_reading : (n : Moment) → answer_of reading (words_in reading) s n ≡ reading_at n x
  unfolding answer_of
  by_reading n = rw read

  -- it is evaluated at a now of the calendar
  pub at_now : (n : Moment) → is_moment n ≡ true → answer_of reading (words_in reading) s n ≡ placed (evaluate x.tree n)
  at_now n h = by_reading n ∙ rw h

  -- and at any other now it is refused 8
  pub at_no_now : (n : Moment) → is_moment n ≡ false → answer_of reading (words_in reading) s n ≡ refuse InvalidMoment 0 0
  at_no_now n h = by_reading n ∙ rw h

-- a phrase that reading refuses is refused so at every now
pub refused_reading : (reading : Reading) (s : List ℕ) {r : Refusal} → read_of reading (words_in reading) s ≡ refused r → (n : Moment) → answer_of reading (words_in reading) s n ≡ refused r
unfolding answer_of
refused_reading reading s h n = rw h

-- where a step leads
pub placed_holds : {M : Moment → Type 0} {o : Outcome} {m : ℕ} → Leads M o → Holds M (Bounded 9 13 m) (placed o)
placed_holds (leads v) = of_given v
placed_holds (refuses {k} e) = let b = test_range (number_of k) 9 13 e in of_refusal {r = refusal_at k 0 0} (omega arith)

-- from a lower number on
pub lowered :
    {M : Moment → Type 0} {low less m : ℕ} {w : Answer Moment} → less ≤ low → Holds M (Bounded low 13 m) w → Holds M (Bounded less 13 m) w
lowered h (of_given v) = of_given v
lowered h (of_refusal {r} b) = of_refusal {r = r} (omega arith)

-- where a reading leads from a now of the calendar, and 8 from any other
reading_holds :
    {M : Moment → Type 0} {m : ℕ} (x : TreeRead) (n : Moment) → (IsMoment n → Leads M (evaluate x.tree n)) →
    Holds M (Bounded 8 13 m) (reading_at n x)
reading_holds {M} {m} x n leading = go (is_moment n) refl
  where
    go : (b : Bool) → is_moment n ≡ b → Holds M (Bounded 8 13 m) (placed (cond b (evaluate x.tree n) (unreached InvalidMoment)))
    go true e = lowered (omega arith) (placed_holds (leading (test_moment n e)))
    go false e = of_refusal {r = refusal_at InvalidMoment 0 0} (omega arith)

-- a reading leads to a moment of the calendar or to a refusal of 8 to 13
reading_settled : {m : ℕ} (x : TreeRead) (n : Moment) → Holds IsMoment (Bounded 8 13 m) (reading_at n x)
reading_settled x n = reading_holds x n (valid_leads x.tree n)

-- every answer is a moment of the calendar, or a refusal of 1 to 13 with a part within the phrase and the 256 bytes that it may have
pub settled : (reading : Reading) (s : List ℕ) (n : Moment) → Holds IsMoment (Bounded 1 13 (min (length s) 256)) (answer_of reading (words_in reading) s n)
unfolding answer_of
settled reading s n = go (read_holds reading s)
  where
    go : {w : ReadPhrase} → Holds (ReadWhole reading s) (Bounded 1 7 (min (length s) 256)) w →
        Holds IsMoment (Bounded 1 13 (min (length s) 256)) (and_then w (reading_at n))
    go (of_given {x} whole) = lowered (omega arith) (reading_settled x n)
    go (of_refusal {r} b) = of_refusal {r = r} (omega arith)

-- a refusal of 1 to 7 does not depend on now
pub whatever_now :
    (reading : Reading) (s : List ℕ) (n m : Moment) {r : Refusal} → answer_of reading (words_in reading) s n ≡ refused r → number_of r.reason ≤ 7 → answer_of reading (words_in reading) s m ≡ refused r
whatever_now reading s n m {r} answer few = go (read_of reading (words_in reading) s) refl
  where
    go : (w : ReadPhrase) → read_of reading (words_in reading) s ≡ w → answer_of reading (words_in reading) s m ≡ refused r
    go (given x) h =
        let high = (refusal_holds (reading_settled {m = 0} x n) (sym (by_reading reading s h n) ∙ answer)).least in
        absurd (omega arith)
    go (refused q) h = refused_reading reading s h m ∙ sym (refused_reading reading s h n) ∙ answer

-- what refusal 8 says: now is none of the calendar, and the phrase is read
pub record ReadAtNoNow (reading : Reading) (s : List ℕ) (n : Moment) : Type 0 where
  pub no-now : is_moment n ≡ false
  pub tree_read : TreeRead
  pub read : read_of reading (words_in reading) s ≡ given tree_read

-- refusal 8 is given only there; `at_no_now` says that it is given wherever that holds
pub eight_only : (reading : Reading) (s : List ℕ) (n : Moment) {r : Refusal} → answer_of reading (words_in reading) s n ≡ refused r → r.reason ≡ InvalidMoment → ReadAtNoNow reading s n
eight_only reading s n {r} answer eight = go (read_of reading (words_in reading) s) (is_moment n) refl refl
  where
    go : (w : ReadPhrase) (b : Bool) → read_of reading (words_in reading) s ≡ w → is_moment n ≡ b → ReadAtNoNow reading s n
    go (given x) true h i =
        let led = placed_holds {m = 0} (valid_leads x.tree n (test_moment n i)) in
        let high = (refusal_holds led (sym (at_now reading s h n i) ∙ answer)).least in
        let number = ap number_of eight in
        absurd (omega arith)
    go (given x) false h i = record { no-now = i; tree_read = x; read = h }
    go (refused q) b h i =
        let few = (refusal_holds (read_holds reading s) h).most in
        let refusal = sym (refused_reading reading s h n) ∙ answer in
        let same : number_of q.reason ≡ number_of r.reason = cc in
        let number = ap number_of eight in
        absurd (omega arith)

module _ (reading : Reading) (s : List ℕ) {x : TreeRead} (read : read_of reading (words_in reading) s ≡ given x) where
  answered :
      {M : Moment → Type 0} (n : Moment) {t : Moment} → (IsMoment n → Leads M (evaluate x.tree n)) →
      answer_of reading (words_in reading) s n ≡ given t → M t
  answered n leading answer = given_holds (reading_holds {m = 0} x n leading) (sym (by_reading reading s read n) ∙ answer)

  -- "a stated time sets them to 0", second and millisecond
  pub stated_second :
      (time_of x.tree ≡ NoTime → ⊥) → (n : Moment) {t : Moment} → answer_of reading (words_in reading) s n ≡ given t → AtSecond 0 0 t
  stated_second stated n answer = answered n (λ v. clocked_leads x.tree n v stated) answer

  module _ (untimed : time_of x.tree ≡ NoTime) where
    -- without one "Now keeps them through every step"
    pub keeps_second :
        (n : Moment) {t : Moment} → answer_of reading (words_in reading) s n ≡ given t → AtSecond n.second n.millisecond t
    keeps_second n answer = answered n (λ v. second_leads x.tree n v untimed) answer

    -- and without hours or minutes in the durations around its date the whole time of day
    pub keeps_time :
        has_sub_daily x.tree ≡ false → (n : Moment) {t : Moment} → answer_of reading (words_in reading) s n ≡ given t → SameTime n t
    keeps_time none n answer = answered n (λ v. time_of_day_leads x.tree n v untimed none) answer
