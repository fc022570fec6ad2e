-- Hub and phone agree at every instant of every file's zone; and what every answer there is. Assumes nothing.
use Prim.Native.Nat.{ℕ, ◌≤◌}
use native.Mathlib.Omega.{arith}
use mathlib.Core.Path.{◌≡◌, refl}
use mathlib.Core.List.{List}
use mathlib.Core.Logic.{inl, inr, ⊎_elim}
use lib.ListN.{length}
use Rattle.refusals.specs.Table.{number_of}
use Rattle.refusals.specs.Answers.{Answer}
use Rattle.refusals.specs.declared.Refusal.{Refusal}
use Rattle.refusals.proofs.Holds.{Bounded, refusal_holds}
use Rattle.lexer.specs.declared.reading.Reading.TheVariants.{First, Second}
use Rattle.records.specs.Records.{decode_of}
use Rattle.zoned.specs.Local.{run_in_zone}
use Rattle.zoned.specs.declared.local.Local.{Local}
use Rattle.zoned.proofs.Settles.{Stops, run_in_zone_settled, zone_settled}
use Rattle.fuzzydate.specs.Called.{code_of, read_in_zone}
use Rattle.fuzzydate.proofs.Readings.{settled_in_zone, ready_in_zone}
use Rattle.agreed.specs.Calls.{IsReading, first, second, ZoneNow, ZoneArrays, zone_after, ReadZone, RunZone}
use Rattle.agreed.specs.Calls.{Alike, Agree, UsualInZone, AnsweredZone}
use Rattle.agreed.proofs.AnyNow.{tells, Says, Answering, answered, agreed, reads_alike, no_reads}

-- a phrase there
abbrev read_there : ℕ → List ℕ → ZoneNow → Answer Local
read_there reading phrase n = read_in_zone reading phrase n.file n.at

module _ {bytes : List ℕ} {n : ZoneNow} {arrays : ZoneArrays} {k : ℕ} {arrays' : ZoneArrays} where
  zone_read_says : (reading : ℕ) → ReadZone reading bytes n arrays k arrays' → Says zone_after (read_there reading bytes n) arrays k arrays'
  zone_read_says reading =
      tells code_of zone_after (λ g l. read_there g.0 g.1 g.2)
      (λ κs a e k g l h p. record { number_is = p.0; array'_is = rw (p.1.0, p.1.1) })

  zone_run_says : RunZone bytes n arrays k arrays' → Says zone_after (run_in_zone (decode_of bytes) n.file n.at) arrays k arrays'
  zone_run_says =
      tells code_of zone_after (λ g l. run_in_zone (decode_of g.0) g.1.file g.1.at)
      (λ κs a e k g l h p. record { number_is = p.0; array'_is = rw (p.1.0, p.1.1) })

-- what is answered there
abbrev in_zones : Answering Local ReadZone RunZone
in_zones =
    record {
      read = read_there;
      run = λ ss n. run_in_zone ss n.file n.at;
      after = zone_after;
      read_says = zone_read_says;
      run_says = zone_run_says;
      made_runs = λ reading phrase n. ready_in_zone reading phrase n.file n.at;
      some = λ reading phrase n r e. (refusal_holds (settled_in_zone reading phrase n.file n.at) e).least;
      same = λ x a b. refl;
      stays = λ r a. refl;
    }

-- hub and phone: "Demand 3 holds with zone and instant in place of now"
pub zone_agree : Agree ReadZone RunZone
zone_agree = agreed in_zones

-- two callers read the same phrase in the same reading at the same instant of the same file's zone
pub zone_read_alike :
    (reading : ℕ) (phrase : List ℕ) (n : ZoneNow) {phone phone' hub hub' : ZoneArrays} {q r : ℕ} →
    ReadZone reading phrase n phone q phone' → ReadZone reading phrase n hub r hub' → Alike q phone phone' r hub hub'
zone_read_alike = reads_alike in_zones

-- the numbers of a refusal there
stops : {low m : ℕ} → 1 ≤ low → (r : Refusal) → Stops low m r → Bounded 1 23 m r × UsualInZone low (number_of r.reason)
stops h r q = ⊎_elim (λ b. (omega arith, inl (b.least, b.most))) (λ b. (omega arith, inr (b.least, b.most))) q

-- what every answer to a phrase in a reading is: 0 and what the clocks show; or a refusal of 1 to 13 or of 21 to 23 whose part lies within the
-- phrase, and nothing written
pub zone_read_answers :
    {reading : ℕ} → IsReading reading → (phrase : List ℕ) (n : ZoneNow) {arrays arrays' : ZoneArrays} {k : ℕ} →
    ReadZone reading phrase n arrays k arrays' → AnsweredZone 1 (length phrase) arrays k arrays'
zone_read_answers first phrase n c =
    answered in_zones (stops (omega arith)) (zone_settled First phrase n.file n.at) (zone_read_says 1 c)
zone_read_answers second phrase n c =
    answered in_zones (stops (omega arith)) (zone_settled Second phrase n.file n.at) (zone_read_says 2 c)

-- any other reading is 15, and nothing is written
pub zone_none_read :
    (reading : ℕ) → (IsReading reading → ⊥) → (phrase : List ℕ) (n : ZoneNow) {arrays arrays' : ZoneArrays} {k : ℕ} →
    ReadZone reading phrase n arrays k arrays' → (k ≡ 15) × (arrays' ≡ arrays)
zone_none_read = no_reads in_zones

-- what running any bytes gives: 0 and what the clocks show; or a number of 8 to 13 or of 21 to 23, and nothing written
pub zone_run_answers :
    (ready : List ℕ) (n : ZoneNow) {arrays arrays' : ZoneArrays} {k : ℕ} → RunZone ready n arrays k arrays' → AnsweredZone 8 0 arrays k arrays'
zone_run_answers ready n c =
    answered in_zones (stops (omega arith)) (run_in_zone_settled (decode_of ready) n.file n.at) (zone_run_says c)
