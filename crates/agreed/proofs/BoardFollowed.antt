-- What an app has added to a board is what the board holds, and what is due first is read from the phrase that was added there. Assumes nothing.
use Prim.Native.Nat.{ℕ, zero, suc}
use native.Mathlib.Omega.{arith}
use mathlib.Core.Path.{◌≡◌, refl, sym, ap, subst, ◌∙◌}
use mathlib.Core.Bool.{Bool, true, false, cond, not}
use mathlib.Core.List.{List}
use lib.Dec.{eqb, ltb}
use borrow.Author.Tests.{eqb-true, eqb-false}
use Rattle.refusals.specs.declared.Reason.TheVariants.{NothingDue}
use Rattle.refusals.specs.Answers.{Answer, given, refused, refuse}
use Rattle.refusals.proofs.Holds.{refusal_holds}
use Rattle.calendar.specs.Moments.{Outcome, moment, refused as unreached, instant_of, moment_in}
use Rattle.calendar.specs.declared.moments.Moment.{Moment}
use Rattle.answer.specs.Answer.{placed}
use Rattle.steps.specs.Running.{run_of}
use Rattle.records.specs.Records.{decode_of}
use Rattle.board.specs.Boards.{Memory, is_filled, outcome_at}
use Rattle.board.specs.Scans.{Others, earlier, scan_from, scan_of}
use Rattle.board.specs.declared.Due.{Due}
use Rattle.fuzzydate.specs.Called.{answer_in, head_code, head_after}
use Rattle.fuzzydate.proofs.Readings.{made_in}
use Rattle.agreed.specs.Calls.{number, size}
use Rattle.agreed.specs.Boards.{Makes, empty, unmade, Adds, put, full, unready, Removes, out, nothing, Moves, moved, unmoved}
use Rattle.agreed.specs.Boards.{Made, new, then, by_make, by_add, by_remove, by_again, Head}
use Rattle.agreed.specs.Boards.{Known, nothing_there, added, changed_at, Followed, begun, made_again, put_there, taken_out, run_again, left_alone, IsFirst, reads}
use Rattle.agreed.proofs.Agreed.{read_says}
use Rattle.agreed.proofs.BoardKept.{refused_leaves, head_scanned}
use Rattle.agreed.proofs.BoardCalls.{make_makes, add-adds, remove_removes, again_moves_all}

-- what an app knows of a slot is so
data Holds (m : Memory) (s : ℕ) : Known → Type 0 where
  free : is_filled m s ≡ false → Holds m s nothing_there
  gives : {reading : ℕ} {phrase : List ℕ} → is_filled m s ≡ true → ((n : Moment) → placed (outcome_at m n s) ≡ answer_in reading phrase n) →
      Holds m s (added reading phrase)

-- a slot that holds the same bytes in another memory
same_there :
    {m m' : Memory} {s : ℕ} {x : Known} → is_filled m' s ≡ is_filled m s → ((n : Moment) → outcome_at m' n s ≡ outcome_at m n s) →
    Holds m s x → Holds m' s x
same_there e f (free h) = free (e ∙ h)
same_there e f (gives h g) = gives (e ∙ h) (λ n. ap placed (f n) ∙ g n)

-- a slot beside the one that a call changed
other_there : {m m' : Memory} {s i : ℕ} {x : Known} → Others m m' s → (i ≡ s → ⊥) → Holds m i x → Holds m' i x
other_there {m} {m'} {s} {i} o h =
    same_there (ap (λ (k : ℕ). not (eqb k 0)) (o.lengths i h)) (λ n. ap (λ (l : List ℕ). run_of (decode_of l) n) (o.phrases i h))

-- all slots of a board, one of them changed
all_there :
    {known : ℕ → Known} {m m' : Memory} {s : ℕ} {x : Known} → Others m m' s → Holds m' s x → ((i : ℕ) → Holds m i (known i)) →
    (i : ℕ) → Holds m' i (changed_at s x known i)
all_there {known} {m} {m'} {s} {x} o here all i = go (eqb i s) refl
  where
    go : (b : Bool) → eqb i s ≡ b → Holds m' i (cond b x (known i))
    go true e = subst (λ (j : ℕ). Holds m' j x) (sym (eqb-true i s e)) here
    go false e = other_there o (eqb-false i s e) (all i)

-- what each call that answers 0 leaves in the slots
made_there : {n : Moment} {m m' : Memory} {k : ℕ} → Makes n m k m' → k ≡ 0 → (s : ℕ) → Holds m' s nothing_there
made_there (empty v e) z s = free (e.free s)
made_there (unmade v) z s = absurd (omega (arith, z))

added_there :
    {reading : ℕ} {phrase : List ℕ} {known : ℕ → Known} {m m' : Memory} {k : ℕ} → Adds reading phrase m k m' → number k ≡ 0 →
    ((i : ℕ) → Holds m i (known i)) → (i : ℕ) → Holds m' i (changed_at (size k) (added reading phrase) known i)
added_there (put z p) w all = all_there p.others (gives p.filled p.gives) all
added_there (full e f) w all = absurd (omega (arith, w))
added_there {reading} {phrase} (unready {r} e) w all =
    let bounds = refusal_holds (made_in reading phrase) e in
    absurd (omega (arith, w))

out_there :
    {known : ℕ → Known} {s : ℕ} {m m' : Memory} {k : ℕ} → Removes s m k m' → k ≡ 0 → ((i : ℕ) → Holds m i (known i)) →
    (i : ℕ) → Holds m' i (changed_at s nothing_there known i)
out_there (out t) z all = all_there t.others (free t.free) all
out_there (nothing f) z all = absurd (omega (arith, z))

moved_there :
    {known : ℕ → Known} {n : Moment} {m m' : Memory} {k : ℕ} → Moves n m k m' → k ≡ 0 → ((i : ℕ) → Holds m i (known i)) → (i : ℕ) → Holds m' i (known i)
moved_there (moved v t) z all i = same_there (rw t.lengths) (λ n. rw (t.ready, t.lengths)) (all i)
moved_there (unmoved v) z all i = absurd (omega (arith, z))

-- a board that is followed is made by the calls
pub followed_made : {known : ℕ → Known} {m : Memory} → Followed known m → Made m
followed_made (begun sized c) = new sized c
followed_made (made_again f c) = then (followed_made f) (by_make c)
followed_made (put_there f c z) = then (followed_made f) (by_add c)
followed_made (taken_out f c) = then (followed_made f) (by_remove c)
followed_made (run_again f c) = then (followed_made f) (by_again c)
followed_made (left_alone f c other) = then (followed_made f) c

-- what an app knows of a board's slots is so
followed_holds : {known : ℕ → Known} {m : Memory} → Followed known m → (s : ℕ) → Holds m s (known s)
followed_holds (begun sized c) = made_there (make_makes c) refl
followed_holds (made_again f c) = made_there (make_makes c) refl
followed_holds (put_there f c z) = added_there (add-adds (followed_made f) c) z (followed_holds f)
followed_holds (taken_out f c) = out_there (remove_removes (followed_made f) c) refl (followed_holds f)
followed_holds (run_again f c) = moved_there (again_moves_all c) refl (followed_holds f)
followed_holds (left_alone {known} f c other) =
    subst (λ (m : Memory). (s : ℕ) → Holds m s (known s)) (sym (refused_leaves c other)) (followed_holds f)

-- what a scan finds lies in a filled slot, and is what that gives
data Scanned (m : Memory) : Answer Due → Type 0 where
  none : Scanned m (refuse NothingDue 0 0)
  found : {d : Due} → is_filled m d.slot ≡ true → outcome_at m (moment_in m.state) d.slot ≡ moment d.moment → Scanned m (given d)

module _ (m : Memory) where
  earlier_found :
      (s : ℕ) (o : Outcome) {w : Answer Due} → is_filled m s ≡ true → outcome_at m (moment_in m.state) s ≡ o → Scanned m w → Scanned m (earlier s o w)
  earlier_found s (unreached k) h e w = w
  earlier_found s (moment t) h e none = found h e
  earlier_found s (moment t) h e (found {d} f g) = go (ltb (instant_of d.moment) (instant_of t))
    where
      go : (b : Bool) → Scanned m (cond b (given d) (given (record { slot = s; moment = t })))
      go true = found f g
      go false = found h e

  scan_found : (k s : ℕ) → Scanned m (scan_from m k s)
  unfolding scan_from
  scan_found zero s = none
  scan_found (suc k) s = go (is_filled m s) refl (scan_found k (suc s))
    where
      go : {w : Answer Due} (b : Bool) → is_filled m s ≡ b → Scanned m w → Scanned m (cond b (earlier s (outcome_at m (moment_in m.state) s) w) w)
      go true e w = earlier_found s _ e refl w
      go false e w = w

  -- a filled slot holds what was added there
  first_there :
      {s : ℕ} {t : Moment} {x : Known} → is_filled m s ≡ true → outcome_at m (moment_in m.state) s ≡ moment t → (array : List ℕ) →
      Holds m s x → IsFirst (moment_in m.state) (head_after (given (record { slot = s; moment = t })) array) x
  first_there h e array (free f) = let z : ◌≡◌ {A = ℕ} 0 1 = cc in absurd (omega arith)
  first_there {s} {t} h e array (gives {reading} {phrase} f g) =
      reads {phrase = phrase} (λ hub hub' r c.
      let says = rw (sym (ap placed (sym e) ∙ g (moment_in m.state))) at (read_says reading c) in
      (says.number_is, says.array'_is))

-- "Moments are those of demand 2 at the board's now": whatever the head may answer with number 0 is a slot and what `fuzzy_read` gives at the
-- board's now for the phrase that was added there
pub first_reads :
    {known : ℕ → Known} {m : Memory} {array array' : List ℕ} {k : ℕ} → Followed known m → Head m array k array' → number k ≡ 0 →
    IsFirst (moment_in m.state) array' (known (size k))
unfolding scan_of
first_reads {known} {m} {array} {array'} {k} f c z = go (scan_of m) (scan_found m 256 0) (head_scanned (followed_made f) c)
  where
    go : (w : Answer Due) → Scanned m w → (k ≡ head_code w) × (array' ≡ head_after w array) → IsFirst (moment_in m.state) array' (known (size k))
    go (refused r) none says = absurd (omega (arith, z, says.0))
    go (given d) (found h e) says =
        let slot : size k ≡ d.slot = omega (arith, says.0) in
        rw (slot, says.1) (first_there m h e array (followed_holds f d.slot))
