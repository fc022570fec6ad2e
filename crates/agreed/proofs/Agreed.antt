-- Hub and phone agree at a fixed offset; and what every answer of the functions that apps call is. Assumes nothing.
use Prim.Native.Nat.{ℕ, ◌≤◌}
use native.Mathlib.Omega.{arith}
use mathlib.Core.Path.{◌≡◌, refl, sym, ◌∙◌}
use mathlib.Core.List.{List}
use lib.ListN.{length, take}
use Rattle.refusals.specs.Table.{number_of}
use Rattle.refusals.specs.Answers.{given, refused}
use Rattle.refusals.specs.declared.Refusal.{Refusal}
use Rattle.refusals.proofs.Holds.{Bounded, given_holds, refusal_holds}
use Rattle.calendar.specs.declared.moments.Moment.{Moment}
use Rattle.answer.specs.Answer.{placed}
use Rattle.lexer.specs.Words.{folded}
use Rattle.lexer.specs.declared.reading.Reading.TheVariants.{First, Second}
use Rattle.lexer.proofs.Visited.{at_most_eight}
use Rattle.answer.proofs.PhraseAtNow.{settled}
use Rattle.steps.specs.Running.{run_of}
use Rattle.ready.specs.Ready.{ReadyPhrase}
use Rattle.ready.proofs.Settles.{run_settled}
use Rattle.records.specs.Records.{decode_of}
use Rattle.fuzzydate.proofs.Readings.{settled_in, ready_in_answers, made_in, no_reading}
use Rattle.fuzzydate.specs.Called.{answer_in, ready_in, code_of, moment_after, found_in, found_after}
use Rattle.agreed.specs.Calls.{IsReading, first, second, MakeReady, Read, Run, number, size}
use Rattle.agreed.specs.Calls.{Alike, Agree, Usual, Answered}
use Rattle.agreed.specs.Calls.{FindWord, Counted, counted}
use Rattle.agreed.proofs.AnyNow.{tells, Says, Makes, make_says, handed, not-zero, none_ready, Answering, answered, agreed, reads_alike, no_reads}

module _ {bytes : List ℕ} {n : Moment} {array : List ℕ} {k : ℕ} {array' : List ℕ} where
  pub read_says : (reading : ℕ) → Read reading bytes n array k array' → Says moment_after (answer_in reading bytes n) array k array'
  read_says reading =
      tells code_of moment_after (λ g l. answer_in g.0 g.1 g.2) (λ κs a e k g l h p. record { number_is = p.0; array'_is = p.1 })

  pub run_says : Run bytes n array k array' → Says moment_after (placed (run_of (decode_of bytes) n)) array k array'
  run_says =
      tells code_of moment_after (λ g l. placed (run_of (decode_of g.0) g.1)) (λ κs a e k g l h p. record { number_is = p.0; array'_is = p.1 })

-- what is answered at a now of seven numbers
abbrev at_offset : Answering Moment Read Run
at_offset =
    record {
      read = answer_in;
      run = λ ss n. placed (run_of ss n);
      after = moment_after;
      read_says = read_says;
      run_says = run_says;
      made_runs = ready_in_answers;
      some = λ reading phrase n r e. (refusal_holds (settled_in reading phrase n) e).least;
      same = λ x a b. refl;
      stays = λ r a. refl;
    }

-- hub and phone
pub agree : Agree Read Run
agree = agreed at_offset

module _ (reading : ℕ) (phrase array array' : List ℕ) (k : ℕ) (make : MakeReady reading phrase array k array') (ready : number k ≡ 0)
    (n : Moment) (hub hub' phone phone' : List ℕ) (q : ℕ) (run : Run (take (size k) array') n phone q phone') where
  -- so where the hub reads a moment, the phone that runs the ready phrase at that now has 0 and the same seven numbers
  pub same_moment : Read reading phrase n hub 0 hub' → (q ≡ 0) × (phone' ≡ hub')
  same_moment read =
      let alike = (agree reading phrase array array' k make n hub hub' 0 read).0 ready phone phone' q run in
      (alike.number_same, alike.moment_same refl)

  -- and where the hub is refused, the phone is refused by the same number, and neither array is written
  pub same_refusal : (r : ℕ) → (r ≡ 0 → ⊥) → Read reading phrase n hub r hub' → (q ≡ r) × (phone' ≡ phone) × (hub' ≡ hub)
  same_refusal r other read =
      let alike = (agree reading phrase array array' k make n hub hub' r read).0 ready phone phone' q run in
      let stay = alike.nothing_written other in
      (alike.number_same, stay.0, stay.1)

-- two callers read the same phrase in the same reading at the same now
pub read_alike :
    (reading : ℕ) (phrase : List ℕ) (n : Moment) {phone phone' hub hub' : List ℕ} {q r : ℕ} →
    Read reading phrase n phone q phone' → Read reading phrase n hub r hub' → Alike q phone phone' r hub hub'
read_alike = reads_alike at_offset

-- two callers make the same phrase ready in the same reading: the same number, and the same bytes, whatever their arrays held
pub ready_alike :
    (reading : ℕ) (phrase : List ℕ) {phone phone' hub hub' : List ℕ} {q r : ℕ} →
    MakeReady reading phrase phone q phone' → MakeReady reading phrase hub r hub' →
    (q ≡ r) × (number r ≡ 0 → take (size q) phone' ≡ take (size r) hub')
ready_alike reading phrase {phone} {phone'} {hub} {hub'} {q} {r} c d = go (ready_in reading phrase) refl (make_says c) (make_says d)
  where
    go :
        (w : ReadyPhrase) → ready_in reading phrase ≡ w → Makes w phone q phone' → Makes w hub r hub' →
        (q ≡ r) × (number r ≡ 0 → take (size q) phone' ≡ take (size r) hub')
    go (refused j) h m o = (m.number_is ∙ sym o.number_is, not-zero reading phrase h o)
    go (given ss) h m o =
        let few = (given_holds (made_in reading phrase) h).most in
        (m.number_is ∙ sym o.number_is, λ z. handed ss few c.bytes m ∙ sym (handed ss few d.bytes o))

-- the numbers of a refusal there
usual : {low m : ℕ} → 1 ≤ low → (r : Refusal) → Bounded low 13 m r → Bounded 1 23 m r × Usual low (number_of r.reason)
usual h r b = (omega arith, (b.least, b.most))

-- what every answer to a phrase in a reading is: 0 and a moment of the calendar; or a refusal of 1 to 13 whose part lies within the phrase,
-- and nothing written
pub read_answers :
    {reading : ℕ} → IsReading reading → (phrase : List ℕ) (n : Moment) {array array' : List ℕ} {k : ℕ} →
    Read reading phrase n array k array' → Answered 1 (length phrase) array k array'
read_answers first phrase n c = answered at_offset (usual (omega arith)) (settled First phrase n) (read_says 1 c)
read_answers second phrase n c = answered at_offset (usual (omega arith)) (settled Second phrase n) (read_says 2 c)

-- any other reading is 15, with place 0 and an empty part, before everything else, and nothing is written
pub none_read :
    (reading : ℕ) → (IsReading reading → ⊥) → (phrase : List ℕ) (n : Moment) {array array' : List ℕ} {k : ℕ} →
    Read reading phrase n array k array' → (k ≡ 15) × (array' ≡ array)
none_read = no_reads at_offset

-- so it is where a phrase is made ready
pub none_made :
    (reading : ℕ) → (IsReading reading → ⊥) → (phrase : List ℕ) {array array' : List ℕ} {k : ℕ} →
    MakeReady reading phrase array k array' → (k ≡ 15) × (array' ≡ array)
none_made reading other phrase c =
    let makes = rw (none_ready reading other phrase) at (make_says c) in
    (makes.number_is, makes.array'_is)

-- what running any bytes gives: 0 and a moment of the calendar; or a number of 8 to 13, and nothing written
pub run_answers :
    (ready : List ℕ) (n : Moment) {array array' : List ℕ} {k : ℕ} → Run ready n array k array' → Answered 8 0 array k array'
run_answers ready n c = answered at_offset (usual (omega arith)) (run_settled (decode_of ready) n) (run_says c)

find_says :
    {reading : ℕ} {word array array' : List ℕ} {k : ℕ} → FindWord reading word array k array' → Says found_after (found_in reading word) array k array'
find_says = tells code_of found_after (λ g l. found_in g.0 g.1) (λ κs a e k g l h p. record { number_is = p.0; array'_is = p.1 })

-- "Finding a word, or that it is absent, takes at most 8 comparisons with table words in either reading": for every byte string, in what is answered
pub find_answers :
    {reading : ℕ} → IsReading reading → (word : List ℕ) {array array' : List ℕ} {k : ℕ} → FindWord reading word array k array' → Counted k array'
find_answers first word c = let says = find_says c in rw (says.number_is, says.array'_is) (counted (at_most_eight First (folded word)))
find_answers second word c = let says = find_says c in rw (says.number_is, says.array'_is) (counted (at_most_eight Second (folded word)))

-- any other reading is 15, and nothing is written
pub none_found :
    (reading : ℕ) → (IsReading reading → ⊥) → (word : List ℕ) {array array' : List ℕ} {k : ℕ} →
    FindWord reading word array k array' → (k ≡ 15) × (array' ≡ array)
none_found reading other word c =
    let says = rw (no_reading reading (λ e. other (rw e first)) (λ e. other (rw e second))) at (find_says c) in
    (says.number_is, says.array'_is)
