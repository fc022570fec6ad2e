-- What was written of a stamp is read back, and what was read is written again, from bytes to bytes. Assumes nothing.
use Prim.Native.Nat.{ℕ, ◌≤◌}
use native.Mathlib.Omega.{arith}
use mathlib.Core.Path.{◌≡◌}
use mathlib.Core.List.{List}
use lib.ListN.{length, take}
use Rattle.refusals.specs.Answers.{given}
use Rattle.refusals.specs.Writings.{buffer_of}
use Rattle.refusals.proofs.Holds.{given_holds}
use Rattle.stamp.specs.Stamps.{stamp_at, offset_place, stamp_of, written_of, plain}
use Rattle.stamp.specs.declared.Stamp.{Stamp}
use Rattle.stamp.proofs.Readings.{Reading, stamp, year_zero, no_stamp, one_of_three}
use Rattle.stamp.proofs.Writings.{writing}
use Rattle.stamp.proofs.WrittenReads.{written_reads}
use Rattle.stamp.proofs.ReadWrites.{read_writes}
use Rattle.fuzzydate.specs.Called.{code_of, stamp_in, nine, stamp_after, written_code}
use Rattle.agreed.specs.Calls.{ReadStamp, WriteStamp, number, size}
use Rattle.agreed.proofs.AnyNow.{tells, Says}
use Rattle.agreed.proofs.Written.{Writes, in_front_lem, written_so}

pub write_says :
    (st : Stamp) {text text' : List ℕ} {k : ℕ} → WriteStamp st text k text' → Writes (written_of st (length text)) text k text'
write_says st =
    tells written_code (λ x l. buffer_of l x) (λ g l. written_of g (length l)) (λ κs a e k g l h p. record { number_is = p.0; array'_is = p.1 })

pub read_says : {text array array' : List ℕ} {k : ℕ} → ReadStamp text array k array' → Says stamp_after (stamp_of text) array k array'
read_says = tells code_of stamp_after (λ g l. stamp_of g) (λ κs a e k g l h p. record { number_is = p.0; array'_is = p.1 })

-- "what is written reads back": whatever writing a stamp may answer with number 0, reading as many bytes as it said gives 0 and the same nine
-- numbers; and a refusal writes nothing
pub stamp_again :
    (st : Stamp) (text text' : List ℕ) (k : ℕ) → WriteStamp st text k text' →
    (number k ≡ 0 → (array array' : List ℕ) (r : ℕ) → ReadStamp (take (size k) text') array r array' →
    (r ≡ 0) × (array' ≡ nine st.moment st.offset.west st.offset.minutes))
    × ((number k ≡ 0 → ⊥) → text' ≡ text)
stamp_again st text text' k call =
    written_so {Q = λ bytes. (array array' : List ℕ) (r : ℕ) → ReadStamp bytes array r array' →
    (r ≡ 0) × (array' ≡ nine st.moment st.offset.west st.offset.minutes)}
    (writing st (length text)) (λ s p. p.fits)
    (λ s e array array' r read.
    let says = rw (written_reads st (length text) s e) at (read_says read) in
    (says.number_is, says.array'_is))
    (omega arith) (write_says st call)

-- the other way: what is read as a stamp is written as the same text, but for the case of letters, "+00:00" and the zeros at the end of a fraction
pub stamp_rewritten :
    (text array array' : List ℕ) → ReadStamp text array 0 array' → (room room' : List ℕ) (k : ℕ) → 29 ≤ length room →
    WriteStamp (stamp_in array') room k room' → (number k ≡ 0) × (take (size k) room' ≡ plain text)
stamp_rewritten text array array' read room room' k enough write = go (one_of_three text) (read_says read)
  where
    go : Reading text (stamp_of text) → Says stamp_after (stamp_of text) array 0 array' → (number k ≡ 0) × (take (size k) room' ≡ plain text)
    go (stamp there v o e) says =
        let st = stamp_at (offset_place text) text in
        let wrote = read_writes text st (length room) e enough in
        let left : array' ≡ stamp_after (given st) array = rw e at says.array'_is in
        let m = rw (left, wrote) at (write_says (stamp_in array') write) in
        (omega (arith, m.number_is), in_front_lem (plain text) (given_holds (writing st (length room)) wrote).fits m)
    go (year_zero there y e) says = absurd (omega (arith, rw e at says.number_is))
    go (no_stamp none e) says = absurd (omega (arith, rw e at says.number_is))
