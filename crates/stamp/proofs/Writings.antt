-- What a writing gives: the text of a stamp that exists, or a refusal without a part. Assumes nothing.
use Prim.Native.Nat.{ℕ, ◌≤◌}
use native.Mathlib.Omega.{arith}
use mathlib.Core.Path.{◌≡◌, refl}
use mathlib.Core.Bool.{Bool, true, false, cond}
use mathlib.Core.List.{List}
use mathlib.Core.Logic.{⊎_elim}
use lib.Dec.{leb}
use lib.ListN.{length, length-append}
use borrow.Author.Tests.{leb-true}
use Rattle.refusals.specs.declared.Reason.{Reason}
use Rattle.refusals.specs.Table.{number_of}
use Rattle.refusals.specs.declared.Reason.TheVariants.{InvalidMoment, NoStamp, NoRoom}
use Rattle.refusals.specs.Answers.{given, refuse, refusal_at}
use Rattle.refusals.proofs.Holds.{Holds, of_given, of_refusal, Bounded}
use Rattle.calendar.specs.Moments.{IsMoment, is_moment}
use Rattle.calendar.proofs.Valid.{test_moment}
use Rattle.stamp.specs.Stamps.{IsOffset, is_offset, offset_text, fraction_text, stamp_text, written_of}
use Rattle.stamp.specs.declared.Stamp.{Stamp}
use Rattle.stamp.proofs.Offsets.{test_offset, offset_sizes}
use Rattle.stamp.proofs.Fractions.{fraction_short}

-- a stamp's text has at most 29 bytes
pub text_short : (st : Stamp) → length (stamp_text st) ≤ 29
text_short st =
    let f = fraction_text st.moment.millisecond in
    let u = offset_text st.offset in
    let sizes = length-append f u in
    let fraction = fraction_short st.moment.millisecond in
    ⊎_elim (λ one. omega arith) (λ six. omega arith) (offset_sizes st.offset)

-- the text of a moment and an offset that exist, in the room that there is
pub record TextOf (st : Stamp) (room : ℕ) (text : List ℕ) : Type 0 where
  pub moment : IsMoment st.moment
  pub offset : IsOffset st.offset
  pub is : stamp_text st ≡ text
  pub fits : length text ≤ room

-- whatever is written is the stamp's text; whatever is refused is so by 8, 14 or 17
pub writing : (st : Stamp) (room : ℕ) → Holds (TextOf st room) (Bounded 8 17 0) (written_of st room)
unfolding written_of
writing st room =
    go (is_moment st.moment) refl (is_offset st.offset) refl (leb (length (stamp_text st)) room) refl
  where
    none : {k : Reason} → 8 ≤ number_of k → number_of k ≤ 17 → Holds (TextOf st room) (Bounded 8 17 0) (refuse k 0 0)
    none {k} l h = of_refusal {r = refusal_at k 0 0} (record { least = l; most = h; start = omega arith; within = omega arith })

    go : (a : Bool) → is_moment st.moment ≡ a → (b : Bool) → is_offset st.offset ≡ b → (c : Bool) → leb (length (stamp_text st)) room ≡ c →
        Holds (TextOf st room) (Bounded 8 17 0) (cond a (cond b (cond c (given (stamp_text st)) (refuse NoRoom 0 0)) (refuse NoStamp 0 0)) (refuse InvalidMoment 0 0))
    go true p true q true r =
        of_given (record {
          moment = test_moment st.moment p;
          offset = test_offset st.offset q;
          is = refl;
          fits = leb-true _ _ r;
        })
    go true p true q false r = none (omega arith) (omega arith)
    go true p false q c r = none (omega arith) (omega arith)
    go false p b q c r = none (omega arith) (omega arith)
