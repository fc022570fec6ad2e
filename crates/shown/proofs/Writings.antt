-- What a writing gives: the phrase of a moment that has one, or a refusal without a part. Assumes nothing.
use Prim.Native.Nat.{ℕ, ◌≤◌}
use native.Mathlib.Omega.{arith}
use mathlib.Core.Path.{◌≡◌, refl}
use mathlib.Core.Bool.{Bool, true, false, cond, and-eq-true_iff}
use mathlib.Core.List.{List}
use lib.Dec.{eqb, leb}
use lib.ListN.{length}
use borrow.Author.Tests.{eqb-true, leb-true}
use Rattle.refusals.specs.declared.Reason.{Reason}
use Rattle.refusals.specs.Table.{number_of}
use Rattle.refusals.specs.declared.Reason.TheVariants.{InvalidMoment, NotWhole, NoRoom}
use Rattle.refusals.specs.Answers.{given, refuse, refusal_at}
use Rattle.refusals.proofs.Holds.{Holds, of_given, of_refusal, Bounded, given_holds}
use Rattle.calendar.specs.Moments.{IsMoment, is_moment}
use Rattle.calendar.specs.declared.moments.Moment.{Moment}
use Rattle.calendar.proofs.Valid.{test_moment}
use Rattle.lexer.specs.Keywords.{words_in}
use Rattle.lexer.specs.declared.reading.Reading.{Reading}
use Rattle.answer.specs.Answer.{answer_of}
use Rattle.shown.specs.Phrases.{phrase_text, IsWhole, is_whole, shown_of, least_year}
use Rattle.shown.proofs.ReadBack.{phrase_short, read_back}

-- what passes as whole is
test_whole : (t : Moment) → is_whole t ≡ true → IsWhole t
test_whole t e =
    let both = (and-eq-true_iff (eqb t.second 0) _).0 e in
    record { second = eqb-true _ _ both.0; millisecond = eqb-true _ _ both.1 }

-- the phrase of a moment that is whole, in the room that there is: no more than 26 bytes
pub record TextOf (t : Moment) (room : ℕ) (text : List ℕ) : Type 0 where
  pub moment : IsMoment t
  pub whole : IsWhole t
  pub is : phrase_text t ≡ text
  pub fits : length text ≤ room
  pub short : length text ≤ 26

-- whatever is written is the moment's phrase; whatever is refused is so by 8, 16 or 17
pub writing : (t : Moment) (room : ℕ) → Holds (TextOf t room) (Bounded 8 17 0) (shown_of t room)
unfolding shown_of
writing t room = go (is_moment t) refl (is_whole t) refl (leb (length (phrase_text t)) room) refl
  where
    none : {k : Reason} → 8 ≤ number_of k → number_of k ≤ 17 → Holds (TextOf t room) (Bounded 8 17 0) (refuse k 0 0)
    none {k} l h = of_refusal {r = refusal_at k 0 0} (record { least = l; most = h; start = omega arith; within = omega arith })

    go : (a : Bool) → is_moment t ≡ a → (b : Bool) → is_whole t ≡ b → (c : Bool) → leb (length (phrase_text t)) room ≡ c →
        Holds (TextOf t room) (Bounded 8 17 0) (cond a (cond b (cond c (given (phrase_text t)) (refuse NoRoom 0 0)) (refuse NotWhole 0 0)) (refuse InvalidMoment 0 0))
    go true p true q true r =
        let v = test_moment t p in
        of_given (record { moment = v; whole = test_whole t q; is = refl; fits = leb-true _ _ r; short = phrase_short t v })
    go true p true q false r = none (omega arith) (omega arith)
    go true p false q c r = none (omega arith) (omega arith)
    go false p b q c r = none (omega arith) (omega arith)

-- whatever is written is read as the moment that was shown, at every valid now
pub written_reads : (reading : Reading) (t : Moment) (room : ℕ) (text : List ℕ) (n : Moment) → shown_of t room ≡ given text
    → least_year reading ≤ t.year → IsMoment n → answer_of reading (words_in reading) text n ≡ given t
written_reads reading t room text n e h v =
    let wrote = given_holds (writing t room) e in
    rw (← wrote.is) (read_back reading t n wrote.moment wrote.whole h v)
