-- What was written of a stamp is read back from its bytes.
use mathlib.Core.Path.{◌≡◌, refl}
use Prim.Native.Nat.{ℕ}
use mathlib.Core.List.{List}
use lib.ListN.{length, take}
use Rattle.digits.proofs.Stores.{sets-taken}
use Rattle.refusals.specs.Answers.{given}
use Rattle.refusals.proofs.Holds.{given_holds}
use Rattle.refusals.specs.Writings.{buffer_of}
use Rattle.stamp.specs.Stamps.{stamp_of, written_of}
use Rattle.stamp.specs.declared.Stamp.{Stamp}
use Rattle.stamp.proofs.WrittenReads.{written_reads}
use Rattle.stamp.proofs.Writings.{writing}
use Rattle.fuzzydate.specs.Called.{code_of, nine, stamp_after}

-- the bytes that a writing counts are read as 0 and the same nine numbers
pub written_back :
    (st : Stamp) (lent array : List ℕ) {text : List ℕ} → written_of st (length lent) ≡ given text →
    let read = stamp_of (take (length text) (buffer_of lent (written_of st (length lent)))) in
    (code_of read ≡ 0) × (stamp_after read array ≡ nine st.moment st.offset.west st.offset.minutes)
written_back st lent array {text} e =
    let fits = (given_holds (writing st (length lent)) e).fits in
    rw (e, sets-taken text lent fits (length text) refl, written_reads st (length lent) text e) (refl, refl)
