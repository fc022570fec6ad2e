-- Hub and phone agree, from bytes to bytes; and what every answer is: whatever a now is, and whatever an answer leaves. Assumes nothing.
use Prim.Native.Nat.{ℕ, ◌+◌, ◌≤◌, min}
use native.Mathlib.Omega.{arith}
use mathlib.Core.Path.{◌≡◌, refl, sym, ◌∙◌}
use mathlib.Core.List.{List}
use lib.ListN.{length, take}
use Rattle.refusals.specs.Answers.{Answer, given, refused, refuse, and_then}
use Rattle.refusals.specs.Table.{number_of}
use Rattle.refusals.specs.declared.Reason.TheVariants.{NoReading}
use Rattle.refusals.specs.declared.Refusal.{Refusal}
use Rattle.refusals.proofs.Holds.{Holds, of_given, of_refusal, Bounded, given_holds, refusal_holds}
use Rattle.steps.specs.declared.plan.Step.{Step}
use Rattle.ready.specs.Ready.{ReadyPhrase}
use Rattle.records.specs.Records.{encode_of, decode_of}
use Rattle.fuzzydate.specs.Called.{ready_in, code, code_of, ready_code, ready_after}
use Rattle.fuzzydate.proofs.Readings.{made_in, read_back, no_reading}
use Rattle.fuzzydate.proofs.HandedOn.{cut_off}
use Rattle.agreed.specs.Calls.{IsReading, first, second, MakeReady, Called, number, place, size, Alike, Agree, Answers, moment, refusal}

-- what an answer of the definitions becomes in a call: a number, and what is left in lent memory
pub record Tells {W L : Type 0} (told : W → ℕ) (after : W → L → L) (w : W) (array : L) (k : ℕ) (array' : L) : Type 0 where
  pub number_is : k ≡ told w
  pub array'_is : array' ≡ after w array

-- a promise that gives the answer of a definition, and leaves what an answer leaves, gives it in every call
pub tells :
    {K : Type 0} {A E : K → Type 0} {Post : (κs : K) → A κs → ℕ → E κs → Type 0} {G L W : Type 0}
    {given_in : (κs : K) → A κs → G → G} {lent_in : (κs : K) → A κs → L → L} {left_in : (κs : K) → E κs → L → L}
    (told : W → ℕ) (after : W → L → L) (defined : G → L → W) →
    ((κs : K) (a : A κs) (e : E κs) (k : ℕ) (g : G) (l : L) → lent_in κs a l ≡ l → Post κs a k e →
    Tells told after (defined (given_in κs a g) (lent_in κs a l)) (lent_in κs a l) k (left_in κs e l)) →
    {g : G} {l : L} {k : ℕ} {l' : L} → Called Post G L given_in lent_in left_in g l k l' → Tells told after (defined g l) l k l'
tells told after defined promised {g} {l} {k} {l'} c =
    rw (c.given_is, c.lent_is, c.left_is) at (promised c.κs c.args c.exit k g l c.lent_is c.promised)

-- of what is answered as 0 or a refusal
abbrev pub Says : {A L : Type 0} → (Answer A → L → L) → Answer A → L → ℕ → L → Type 0
Says after w array k array' = Tells code_of after w array k array'

-- of a ready phrase
abbrev pub Makes : ReadyPhrase → List ℕ → ℕ → List ℕ → Type 0
Makes w array k array' = Tells ready_code ready_after w array k array'

pub make_says :
    {reading : ℕ} {phrase array array' : List ℕ} {k : ℕ} → MakeReady reading phrase array k array' → Makes (ready_in reading phrase) array k array'
make_says c =
    tells ready_code ready_after (λ g l. ready_in g.0 g.1) (λ κs a e k g l h p. record { number_is = p.0; array'_is = p.1 }) c.call

-- the bytes that an app hands on are those of the steps, whatever the array held
pub handed :
    (ss : List Step) {array array' : List ℕ} {k : ℕ} → length ss ≤ 24 → length array ≡ 384 → Makes (given ss) array k array' →
    take (size k) array' ≡ encode_of ss
handed ss {array} few bytes m = rw m.array'_is (cut_off ss array few bytes m.number_is)

-- a refusal's number is not 0
pub not-zero :
    (reading : ℕ) (phrase : List ℕ) {q : Refusal} {k : ℕ} {array array' : List ℕ} {A : Type 0} → ready_in reading phrase ≡ refused q →
    Makes (refused q) array k array' → number k ≡ 0 → A
not-zero reading phrase h m zero =
    let bounds = refusal_holds (made_in reading phrase) h in
    absurd (omega (arith, m.number_is))

-- any reading but 1 and 2 makes nothing ready
pub none_ready : (reading : ℕ) → (IsReading reading → ⊥) → (phrase : List ℕ) → ready_in reading phrase ≡ refuse NoReading 0 0
none_ready reading other phrase = rw (no_reading reading (λ e. other (rw e first)) (λ e. other (rw e second)))

-- a refusal's parts are found in its number
parts_found :
    (r : Refusal) {room k : ℕ} → Bounded 1 23 (min room 256) r → k ≡ code r → (number k ≡ number_of r.reason) × (place k + size k ≤ room)
parts_found r b e = (omega arith, omega arith)

-- two functions, with what they promise to answer at a now, to a phrase in a reading and to the steps of a ready phrase, and what an answer leaves;
-- and what is needed of that: what was made of a phrase runs as it is read, no refusal is 0, and what was lent does not count where something is
-- given, and stays where it is refused
pub record Answering {N L : Type 0} (A : Type 0) (Read : ℕ → List ℕ → N → L → ℕ → L → Type 0) (Run : List ℕ → N → L → ℕ → L → Type 0) : Type 0 where
  pub read : ℕ → List ℕ → N → Answer A
  pub run : List Step → N → Answer A
  pub after : Answer A → L → L
  pub read_says : {phrase : List ℕ} {n : N} {array : L} {k : ℕ} {array' : L} (reading : ℕ) → Read reading phrase n array k array' →
      Says after (read reading phrase n) array k array'
  pub run_says : {ready : List ℕ} {n : N} {array : L} {k : ℕ} {array' : L} → Run ready n array k array' →
      Says after (run (decode_of ready) n) array k array'
  pub made_runs : (reading : ℕ) (phrase : List ℕ) (n : N) → and_then (ready_in reading phrase) (λ ss. run ss n) ≡ read reading phrase n
  pub some : (reading : ℕ) (phrase : List ℕ) (n : N) (r : Refusal) → read reading phrase n ≡ refused r → 1 ≤ number_of r.reason
  pub same : (x : A) (a b : L) → after (given x) a ≡ after (given x) b
  pub stays : (r : Refusal) (a : L) → after (refused r) a ≡ a

module _ {N L A : Type 0} {Read : ℕ → List ℕ → N → L → ℕ → L → Type 0} {Run : List ℕ → N → L → ℕ → L → Type 0} (d : Answering A Read Run) where
  -- one answer, given in two calls
  alike :
      (w : Answer A) → ((r : Refusal) → w ≡ refused r → 1 ≤ number_of r.reason) → {phone phone' hub hub' : L} {q r : ℕ} →
      Says d.after w phone q phone' → Says d.after w hub r hub' → Alike q phone phone' r hub hub'
  alike (given x) some c e =
      record {
        number_same = c.number_is ∙ sym e.number_is;
        moment_same = λ z. c.array'_is ∙ d.same x _ _ ∙ sym e.array'_is;
        nothing_written = λ f. absurd (f e.number_is);
      }
  alike (refused j) some c e =
      record {
        number_same = c.number_is ∙ sym e.number_is;
        moment_same = λ z. absurd (omega (arith, some j refl, e.number_is));
        nothing_written = λ f. (c.array'_is ∙ d.stays j _, e.array'_is ∙ d.stays j _);
      }

  -- a phrase that is made ready runs as it is read, at every now
  run_made :
      (reading : ℕ) (phrase : List ℕ) {ss : List Step} → ready_in reading phrase ≡ given ss → (n : N) →
      d.run (decode_of (encode_of ss)) n ≡ d.read reading phrase n
  run_made reading phrase h n = rw (read_back reading phrase h) (rw h at (d.made_runs reading phrase n))

  -- what making ready refuses reading refuses so, at every now
  read_refused :
      (reading : ℕ) (phrase : List ℕ) {r : Refusal} → ready_in reading phrase ≡ refused r → (n : N) → d.read reading phrase n ≡ refused r
  read_refused reading phrase h n = sym (rw h at (d.made_runs reading phrase n))

  -- what an answer whose part lies within that room and 256 bytes becomes in a call
  pub answered :
      {P : A → Type 0} {Q : Refusal → Type 0} {Number : ℕ → Type 0} {room : ℕ} {w : Answer A} {array array' : L} {k : ℕ} →
      ((r : Refusal) → Q r → Bounded 1 23 (min room 256) r × Number (number_of r.reason)) → Holds P Q w → Says d.after w array k array' →
      Answers d.after P Number room array k array'
  answered bounds (of_given v) c = rw (c.number_is, c.array'_is) (moment v)
  answered {array = array} {k = k} bounds (of_refusal {r} q) c =
      let b = bounds r q in
      let parts = parts_found r b.0 c.number_is in
      rw (c.array'_is, d.stays r array) (refusal {k = k} (rw parts.0 b.1) parts.1)

  -- two callers read the same phrase in the same reading at the same now
  pub reads_alike :
      (reading : ℕ) (phrase : List ℕ) (n : N) {phone phone' hub hub' : L} {q r : ℕ} →
      Read reading phrase n phone q phone' → Read reading phrase n hub r hub' → Alike q phone phone' r hub hub'
  reads_alike reading phrase n c e = alike (d.read reading phrase n) (d.some reading phrase n) (d.read_says reading c) (d.read_says reading e)

  module _ (reading : ℕ) (phrase : List ℕ) {array array' : List ℕ} {k : ℕ} {n : N} {hub hub' : L} {r : ℕ}
      (read : Read reading phrase n hub r hub') where
    -- making ready refuses
    refused_alike :
        (w : ReadyPhrase) → ready_in reading phrase ≡ w → Makes w array k array' → (number k ≡ 0 → ⊥) →
        (r ≡ k) × (array' ≡ array) × (hub' ≡ hub)
    refused_alike (refused q) h m other =
        let e = rw (read_refused reading phrase h n) at (d.read_says reading read) in
        (e.number_is ∙ sym m.number_is, m.array'_is, e.array'_is ∙ d.stays q hub)
    refused_alike (given ss) h m other = absurd (other (omega (arith, m.number_is)))

    -- it does not, and what was made is run
    run_alike :
        (w : ReadyPhrase) → ready_in reading phrase ≡ w → length array ≡ 384 → Makes w array k array' → number k ≡ 0 →
        (phone phone' : L) (q : ℕ) → Run (take (size k) array') n phone q phone' → Alike q phone phone' r hub hub'
    run_alike (refused j) h bytes m zero phone phone' q run = not-zero reading phrase h m zero
    run_alike (given ss) h bytes m zero phone phone' q run =
        let c = rw (handed ss (given_holds (made_in reading phrase) h).most bytes m, run_made reading phrase h n) at (d.run_says run) in
        alike (d.read reading phrase n) (d.some reading phrase n) c (d.read_says reading read)

  -- hub and phone
  pub agreed : Agree Read Run
  agreed reading phrase array array' k make n hub hub' r read =
      let m = make_says make in
      (run_alike reading phrase read _ refl make.bytes m, refused_alike reading phrase read _ refl m)

  -- any other reading is 15, with place 0 and an empty part, before everything else, and nothing is written
  pub no_reads :
      (reading : ℕ) → (IsReading reading → ⊥) → (phrase : List ℕ) (n : N) {array array' : L} {k : ℕ} →
      Read reading phrase n array k array' → (k ≡ 15) × (array' ≡ array)
  no_reads reading other phrase n c =
      let e = rw (read_refused reading phrase (none_ready reading other phrase) n) at (d.read_says reading c) in
      (e.number_is, e.array'_is ∙ d.stays _ _)
