-- Which numbers each call may answer, and what the memory that was lent then holds. Assumes nothing.
use Prim.Native.Nat.{ℕ, ◌+◌, ◌*◌}
use native.Mathlib.Omega.{arith}
use mathlib.Core.Path.{◌≡◌, refl}
use mathlib.Core.Bool.{Bool, true, false, cond}
use mathlib.Core.List.{List, [], ◌∷◌}
use mathlib.Core.Logic.{inl, inr}
use lib.Dec.{leb}
use lib.ListN.{length}
use Rattle.refusals.specs.Table.{number_of}
use Rattle.refusals.specs.declared.Reason.TheVariants.{InvalidMoment, NoStamp, NotWhole, NoRoom, Outside}
use Rattle.refusals.specs.declared.Reason.{Reason}
use Rattle.refusals.specs.Answers.{Answer, given, refuse}
use Rattle.refusals.proofs.Holds.{given_holds}
use Rattle.calendar.specs.Moments.{is_moment}
use Rattle.calendar.specs.declared.moments.Moment.{Moment}
use Rattle.stamp.specs.Stamps.{is_offset, stamp_text, stamp_of, written_of}
use Rattle.stamp.specs.declared.Stamp.{Stamp}
use Rattle.stamp.proofs.Readings.{Reading, stamp, year_zero, no_stamp, one_of_three}
use Rattle.stamp.proofs.Writings.{writing, TextOf}
use Rattle.shown.specs.Phrases.{is_whole, phrase_text, shown_of}
use Rattle.shown.proofs.Writings.{writing as showing, TextOf as PhraseOf}
use Rattle.fuzzydate.specs.Called.{stamp_after}
use Rattle.agreed.specs.Calls.{ReadStamp, WriteStamp, WritePhrase, Answers, moment, refusal, OneOf, IsStamp, Wrote, wrote, unwritten}
use Rattle.agreed.proofs.AnyNow.{Says}
use Rattle.agreed.proofs.Written.{Writes}
use Rattle.agreed.proofs.ShownAgain.{write_says}
use Rattle.agreed.proofs.StampAgain.{write_says as stamp-write-says, read_says as stamp-read-says}

-- reading a text as a stamp: 0 and the nine numbers of one that exists; or 12 or 14, and nothing written
pub read_stamp_answers :
    {text array array' : List ℕ} {k : ℕ} → ReadStamp text array k array' → Answers stamp_after IsStamp (OneOf (Outside ∷ NoStamp ∷ [])) 0 array k array'
read_stamp_answers {text} {array} {array'} {k} c = go (one_of_three text) (stamp-read-says c)
  where
    go : Reading text (stamp_of text) → Says stamp_after (stamp_of text) array k array' →
        Answers stamp_after IsStamp (OneOf (Outside ∷ NoStamp ∷ [])) 0 array k array'
    go (stamp there v o e) m =
        let says = rw e at m in
        rw (says.number_is, says.array'_is) (moment (record { moment = v; offset = o }))
    go (year_zero there y e) m =
        let says = rw e at m in
        rw (says.number_is, says.array'_is) (refusal {k = number_of Outside} (inl refl) (omega arith))
    go (no_stamp none e) m =
        let says = rw e at m in
        rw (says.number_is, says.array'_is) (refusal {k = number_of NoStamp} (inr (inl refl)) (omega arith))

module _ {P : List ℕ → Type 0} {low mid high : Reason} {text text' : List ℕ} {k : ℕ} where
  -- two tests and the room, each with its refusal
  by_tests :
      (a b : Bool) (s : List ℕ) (w : Answer (List ℕ)) → w ≡ cond a (cond b (cond (leb (length s) (length text)) (given s) (refuse high 0 0)) (refuse mid 0 0)) (refuse low 0 0) →
      ((x : List ℕ) → w ≡ given x → P x) → Writes w text k text' → Wrote P (low ∷ mid ∷ high ∷ []) text k text'
  by_tests false b s w e p m = let says = rw e at m in rw (says.number_is, says.array'_is) (unwritten {k = number_of low + 65536 * 0 + 4294967296 * 0} (inl (omega arith)))
  by_tests true false s w e p m = let says = rw e at m in rw (says.number_is, says.array'_is) (unwritten {k = number_of mid + 65536 * 0 + 4294967296 * 0} (inr (inl (omega arith))))
  by_tests true true s w e p m = go (leb (length s) (length text)) e
    where
      go : (c : Bool) → w ≡ cond c (given s) (refuse high 0 0) → Wrote P (low ∷ mid ∷ high ∷ []) text k text'
      go true f = let says = rw f at m in rw (says.number_is, says.array'_is) (wrote {bytes = s} (p s f))
      go false f = let says = rw f at m in rw (says.number_is, says.array'_is) (unwritten {k = number_of high + 65536 * 0 + 4294967296 * 0} (inr (inr (inl (omega arith)))))

-- writing a stamp: its text, or 8, 14 or 17, and nothing written
pub write_stamp_answers :
    (st : Stamp) {text text' : List ℕ} {k : ℕ} → WriteStamp st text k text' →
    Wrote (TextOf st (length text)) (InvalidMoment ∷ NoStamp ∷ NoRoom ∷ []) text k text'
unfolding written_of
write_stamp_answers st {text} c =
    by_tests (is_moment st.moment) (is_offset st.offset) (stamp_text st) _ refl (λ x e. given_holds (writing st (length text)) e) (stamp-write-says st c)

-- writing a moment as a phrase: the phrase, or 8, 16 or 17, and nothing written
pub write_phrase_answers :
    (t : Moment) {text text' : List ℕ} {k : ℕ} → WritePhrase t text k text' →
    Wrote (PhraseOf t (length text)) (InvalidMoment ∷ NotWhole ∷ NoRoom ∷ []) text k text'
unfolding shown_of
write_phrase_answers t {text} c =
    by_tests (is_moment t) (is_whole t) (phrase_text t) _ refl (λ x e. given_holds (showing t (length text)) e) (write_says t c)
