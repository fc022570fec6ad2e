-- A later now never goes back, over the calls of apps: for one phrase and reading, or one ready phrase, and two nows with the same time of
-- day, whatever the two calls may answer and leave. Assumes nothing.
use Prim.Native.Nat.{ℕ, ◌<◌}
use native.Mathlib.Omega.{arith}
use mathlib.Core.Path.{◌≡◌}
use mathlib.Core.List.{List}
use Rattle.refusals.specs.Answers.{Answer, given}
use Rattle.refusals.proofs.Holds.{Holds, of_given, of_refusal, Bounded}
use Rattle.calendar.specs.Moments.{IsMoment, NotAfter, moment_in}
use Rattle.calendar.specs.declared.moments.Moment.{Moment}
use Rattle.lexer.specs.Keywords.{words_in}
use Rattle.answer.specs.Answer.{placed, answer_of}
use Rattle.steps.specs.Running.{run_of}
use Rattle.ready.proofs.Settles.{run_settled}
use Rattle.records.specs.Records.{decode_of}
use Rattle.later.specs.Nows.{SameTime, NeverBack}
use Rattle.later.proofs.Lists.{steps_never_back}
use Rattle.later.proofs.Phrases.{then_never_back, later_now_never_back}
use Rattle.fuzzydate.specs.Called.{reading_of, answer_in, moment_after}
use Rattle.fuzzydate.proofs.Readings.{settled_in}
use Rattle.agreed.specs.Calls.{Read, Run}
use Rattle.agreed.proofs.AnyNow.{Says}
use Rattle.agreed.proofs.Agreed.{read_says, run_says}

-- of a definition whose refusals have numbers above 0
module _ {low high room : ℕ} (some : 0 < low) where
  -- with the answer 0 its moment is left
  zero_left :
      {w : Answer Moment} {array array' : List ℕ} → Holds IsMoment (Bounded low high room) w → Says moment_after w array 0 array' →
      w ≡ given (moment_in array')
  zero_left (of_given v) c = rw c.array'_is
  zero_left (of_refusal b) c = absurd (omega (arith, c.number_is))

  -- and of two calls that answer 0 the moments are in order, where it never goes back
  left_in_order :
      (answer : Moment → Answer Moment) → NeverBack answer → ((n : Moment) → Holds IsMoment (Bounded low high room) (answer n)) →
      (n m : Moment) {a a' b b' : List ℕ} → SameTime n m → NotAfter n m → Says moment_after (answer n) a 0 a' → Says moment_after (answer m) b 0 b' →
      NotAfter (moment_in a') (moment_in b')
  left_in_order answer never holds n m same order c d =
      never.never_back n m same order (zero_left (holds n) c) (zero_left (holds m) d)

-- a phrase at a now in the reading of a number
in_never_back : (reading : ℕ) (phrase : List ℕ) → NeverBack (answer_in reading phrase)
in_never_back reading phrase =
    then_never_back (reading_of reading) (λ r n. answer_of r (words_in r) phrase n) (λ r. later_now_never_back r phrase)

-- "for one phrase and reading, take two valid nows with the same time of day, both answered with a moment. The later now gives an equal or
-- later moment."
pub read_never_back :
    (reading : ℕ) (phrase : List ℕ) (n m : Moment) {a a' b b' : List ℕ} → SameTime n m → NotAfter n m →
    Read reading phrase n a 0 a' → Read reading phrase m b 0 b' → NotAfter (moment_in a') (moment_in b')
read_never_back reading phrase n m same order c d =
    left_in_order (omega arith) (answer_in reading phrase) (in_never_back reading phrase) (settled_in reading phrase) n m same order
    (read_says reading c) (read_says reading d)

-- the same of any bytes that are run
pub run_never_back :
    (ready : List ℕ) (n m : Moment) {a a' b b' : List ℕ} → SameTime n m → NotAfter n m →
    Run ready n a 0 a' → Run ready m b 0 b' → NotAfter (moment_in a') (moment_in b')
run_never_back ready n m same order c d =
    left_in_order (omega arith) (λ n. placed (run_of (decode_of ready) n)) (steps_never_back (decode_of ready)) (run_settled (decode_of ready))
    n m same order (run_says c) (run_says d)
