-- What holds in either reading holds for every number that a caller gives: 15 stands for those that are no reading.
use Prim.Native.Nat.{ℕ, ◌≤◌, min}
use native.Mathlib.Omega.{arith}
use mathlib.Core.Path.{◌≡◌, refl, sym}
use mathlib.Core.Bool.{Bool, true, false, cond}
use mathlib.Core.List.{List}
use mathlib.Core.Logic.{⊎_elim}
use lib.Dec.{eqb}
use lib.ListN.{length}
use borrow.Author.Tests.{ne_eqb}
use Rattle.std.specs.Prelude.{Result, Ok, Err, IfErr}
use Rattle.refusals.specs.declared.Reason.{Reason}
use Rattle.refusals.specs.declared.Reason.TheVariants.{NoReading}
use Rattle.refusals.specs.Answers.{Answer, given, refusal_at, refuse, and_then, answer_from}
use Rattle.refusals.specs.declared.Refusal.{Refusal}
use Rattle.refusals.proofs.Holds.{Holds, of_given, of_refusal, Bounded, given_holds, refusal_holds}
use Rattle.calendar.specs.Moments.{IsMoment}
use Rattle.calendar.specs.declared.moments.Moment.{Moment}
use Rattle.lexer.specs.Keywords.{words_in}
use Rattle.lexer.specs.Readings.{reading_numbered}
use Rattle.lexer.specs.declared.reading.Reading.{Reading}
use Rattle.lexer.specs.declared.reading.Reading.TheVariants.{First, Second}
use Rattle.phrase.specs.Read.{read_of}
use Rattle.answer.specs.Answer.{answer_of}
use Rattle.answer.proofs.PhraseAtNow.{settled}
use Rattle.steps.proofs.Small.{all_smaller}
use Rattle.steps.specs.declared.plan.Step.{Step}
use Rattle.ready.specs.Ready.{ready_of, run_ready}
use Rattle.ready.proofs.ReadyPhrases.{MadeReady, made_ready, ready_answers}
use Rattle.records.specs.Records.{encode_of, decode_of}
use Rattle.records.proofs.Lists.{decoded_back}
use Rattle.zones.specs.declared.instants.Instant.{Instant}
use Rattle.zoned.specs.Local.{IsLocal, run_in_zone, evaluate_in_zone}
use Rattle.zoned.specs.declared.local.Local.{Local}
use Rattle.zoned.proofs.Calls.{zone_calls_alike}
use Rattle.zoned.proofs.Settles.{Stops, zone_settled}
use Rattle.fuzzydate.specs.Called.{reading_of, answer_in, Part, ready_in, read_in_zone}

-- either reading, or 15
by_number : (P : Answer Reading → Type 0) (k : ℕ) → ((reading : Reading) → P (given reading)) → P (refuse NoReading 0 0) → P (reading_of k)
by_number P k each none = go (eqb k 1) (eqb k 2)
  where
    go : (a b : Bool) → P (cond a (given First) (cond b (given Second) (refuse NoReading 0 0)))
    go true b = each First
    go false true = each Second
    go false false = none

-- the answer that the code's reading of a number is
abbrev pub chosen : Result Reading Reason → Answer Reading
chosen (Ok reading) = given reading
chosen (Err k) = refuse k 0 0

pub numbered : (k : ℕ) → reading_of k ≡ chosen (reading_numbered k)
numbered k = go (eqb k 1) (eqb k 2)
  where
    go : (a b : Bool) → cond a (given First) (cond b (given Second) (refuse NoReading 0 0)) ≡ chosen (cond a (Ok First) (cond b (Ok Second) (Err NoReading)))
    go true b = refl
    go false true = refl
    go false false = refl

-- a number that is neither 1 nor 2 is 15
pub no_reading : (k : ℕ) → (k ≡ 1 → ⊥) → (k ≡ 2 → ⊥) → reading_of k ≡ refuse NoReading 0 0
no_reading k one two = rw (ne_eqb k 1 one, ne_eqb k 2 two)

-- from 13 on up to 15
up_to_15 : {A : Type 0} {P : A → Type 0} {high m : ℕ} {w : Answer A} → high ≤ 15 → Holds P (Bounded 1 high m) w → Holds P (Bounded 1 15 m) w
up_to_15 h (of_given p) = of_given p
up_to_15 h (of_refusal {r} b) = of_refusal {r = r} (omega arith)

-- every answer is a moment of the calendar, or a refusal with a part within the phrase
pub settled_in : (k : ℕ) (s : List ℕ) (n : Moment) → Holds IsMoment (Bounded 1 15 (min (length s) 256)) (answer_in k s n)
settled_in k s n =
    by_number (λ w. Holds IsMoment (Bounded 1 15 (min (length s) 256)) (and_then w (λ reading. answer_of reading (words_in reading) s n))) k
    (λ reading. up_to_15 (omega arith) (settled reading s n))
    (of_refusal {r = refusal_at NoReading 0 0} (omega arith))

-- so the code's answer has its part there too
pub part_in : (k : ℕ) (s : List ℕ) (n : Moment) (r : Result Moment Refusal) → answer_from r ≡ answer_in k s n → IfErr r Part
part_in k s n (Ok t) e = tt
part_in k s n (Err x) e = let b = refusal_holds (settled_in k s n) (sym e) in (omega (arith, b), omega (arith, b))

-- without a reading no phrase is made ready
pub none_ready : (k : ℕ) (s : List ℕ) {why : Reason} → reading_numbered k ≡ Err why → ready_in k s ≡ refuse why 0 0
none_ready k s e = rw (numbered k, e)

-- what a phrase is made ready as is bounded alike
pub made_in : (k : ℕ) (s : List ℕ) → Holds MadeReady (Bounded 1 15 (min (length s) 256)) (ready_in k s)
made_in k s =
    by_number (λ w. Holds MadeReady (Bounded 1 15 (min (length s) 256)) (and_then w (λ reading. ready_of reading (words_in reading) s))) k
    (λ reading. up_to_15 (omega arith) (made_ready reading s))
    (of_refusal {r = refusal_at NoReading 0 0} (omega arith))

-- made ready and run at any now, it gives the answer of the phrase at that now
pub ready_in_answers : (k : ℕ) (s : List ℕ) (n : Moment) → run_ready (ready_in k s) n ≡ answer_in k s n
ready_in_answers k s n =
    by_number (λ w. run_ready (and_then w (λ r. ready_of r (words_in r) s)) n ≡ and_then w (λ r. answer_of r (words_in r) s n)) k
    (λ reading. ready_answers reading s n)
    refl

-- and run at any instant of any file's zone, the answer of the phrase there
pub ready_in_zone : (k : ℕ) (s file : List ℕ) (n : Instant) → and_then (ready_in k s) (λ ss. run_in_zone ss file n) ≡ read_in_zone k s file n
ready_in_zone k s file n =
    by_number
    (λ w. and_then (and_then w (λ r. ready_of r (words_in r) s)) (λ ss. run_in_zone ss file n)
    ≡ and_then w (λ r. and_then (read_of r (words_in r) s) (λ x. evaluate_in_zone x.tree file n))) k
    (λ reading. zone_calls_alike reading s file n)
    refl

-- where every answer is what the clocks show, or a refusal with a part within the phrase
pub settled_in_zone : (k : ℕ) (s file : List ℕ) (n : Instant) → Holds IsLocal (Bounded 1 23 (min (length s) 256)) (read_in_zone k s file n)
settled_in_zone k s file n =
    by_number
    (λ w. Holds IsLocal (Bounded 1 23 (min (length s) 256))
    (and_then w (λ r. and_then (read_of r (words_in r) s) (λ x. evaluate_in_zone x.tree file n)))) k
    (λ reading. up_to_23 (zone_settled reading s file n))
    (of_refusal {r = refusal_at NoReading 0 0} (omega arith))
  where
    up_to_23 : {m : ℕ} {w : Answer Local} → Holds IsLocal (Stops 1 m) w → Holds IsLocal (Bounded 1 23 m) w
    up_to_23 (of_given p) = of_given p
    up_to_23 (of_refusal {r} q) = of_refusal {r = r} (⊎_elim (λ b. omega arith) (λ b. omega arith) q)

-- the records of any phrase decode to the steps that it was made into
pub read_back : (k : ℕ) (s : List ℕ) {ss : List Step} → ready_in k s ≡ given ss → decode_of (encode_of ss) ≡ ss
read_back k s {ss} e = let made = given_holds (made_in k s) e in decoded_back ss made.most (all_smaller (omega arith) made.small)
