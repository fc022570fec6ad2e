-- What the numbers of a board's calls say. Assumes nothing.
use Rattle.std.specs.Prelude.{ℕ, ◌≡◌, refl, ◌*◌, ◌≤◌, ◌<◌, Bool, true, false, cond, ◌&&◌, List, map, ltb, length, take, replicate, Result, Ok, Err}
use Rattle.std.proofs.lemmas.List.Edits.{sets}
use Rattle.std.proofs.Common.{sym, ◌∙◌}
use native.Mathlib.Omega.{arith}
use lib.ListN.{length-map, length-take}
use borrow.Author.Tests.{ltb-true}
use Rattle.refusals.specs.declared.Reason.{Reason}
use Rattle.refusals.specs.declared.Reason.TheVariants.{InvalidMoment, FullBoard, EmptySlot}
use Rattle.refusals.specs.declared.Refusal.{Refusal}
use Rattle.refusals.specs.Answers.{Answer, given, refusal_at, refuse, and_then}
use Rattle.refusals.proofs.Holds.{Holds, of_given, of_refusal, Bounded}
use Rattle.calendar.specs.Moments.{is_moment}
use Rattle.calendar.specs.declared.moments.Moment.{Moment}
use Rattle.ready.specs.Ready.{ReadyPhrase}
use Rattle.ready.proofs.ReadyPhrases.{MadeReady}
use Rattle.board.specs.Rows.{slot_of}
use Rattle.board.specs.Boards.{Memory, Done, done, make_of, slot_for, add_of, remove_of, again_of, order_of, free_slot, count_in, is_filled, memory, state_of, order_at, removed, done_of, added_of}
use Rattle.fuzzydate.specs.Called.{Part, code, code_of, done_code, added_code, ready_in}
use Rattle.fuzzydate.proofs.Readings.{made_in}

-- a refusal without a place is its number
plain : (k : Reason) (b : Bool) (d : Done) → done_code (done_of (cond b (given d) (refuse k 0 0))) ≡ code_of (cond b (given d) (refuse k 0 0))
plain k true d = refl
plain k false d = omega arith

pub make_code : (m : Memory) (n : Moment) → done_code (done_of (make_of m n)) ≡ code_of (make_of m n)
unfolding make_of
make_code m n = plain InvalidMoment (is_moment n) (record { number = 0; after = memory m.ready (replicate 256 0) m.keys (state_of n 0) })

pub remove_code : (m : Memory) (s : ℕ) → done_code (done_of (remove_of m s)) ≡ code_of (remove_of m s)
unfolding remove_of
remove_code m s = plain EmptySlot (ltb s 256 && is_filled m s) (record { number = s; after = removed m s })

pub again_code : (m : Memory) (n : Moment) → done_code (done_of (again_of m n)) ≡ code_of (again_of m n)
unfolding again_of
again_code m n =
    plain InvalidMoment (is_moment n) (record { number = 0; after = memory m.ready m.lengths (sets m.keys 0 (order_at m n)) (state_of n (length (order_at m n))) })

-- the slot of a reminder that is added is one of 256, and what is refused has its part within the phrase
abbrev OneOf256 : Done → Type 0
OneOf256 d = d.number < 256

added_within : (m : Memory) {n : ℕ} (w : ReadyPhrase) → Holds MadeReady (Bounded 1 15 n) w → n ≤ 256 → Holds OneOf256 (Bounded 1 24 256) (add_of m w)
unfolding add_of slot_for
added_within m {n} w made within = go made
  where
    slot : (k : ℕ) (b : Bool) → ltb k 256 ≡ b → (f : ℕ → Memory) →
        Holds OneOf256 (Bounded 1 24 256) (and_then (cond b (given k) (refuse FullBoard 0 0)) (λ k. done k (f k)))
    slot k true e f = of_given (ltb-true k 256 e)
    slot k false e f = of_refusal {r = refusal_at FullBoard 0 0} (omega arith)

    go : {w : ReadyPhrase} → Holds MadeReady (Bounded 1 15 n) w → Holds OneOf256 (Bounded 1 24 256) (add_of m w)
    go (of_given p) = slot (free_slot m) (ltb (free_slot m) 256) refl _
    go (of_refusal {r} b) = of_refusal {r = r} (omega (arith, b, within))

-- what the code's answer says
module _ (m : Memory) (k : ℕ) (s : List ℕ) {answer : Result ℕ Refusal} (promised : answer ≡ added_of (add_of m (ready_in k s))) where
  holds : Holds OneOf256 (Bounded 1 24 256) (add_of m (ready_in k s))
  holds = added_within m (ready_in k s) (made_in k s) (omega arith)

  -- the slot
  pub slot_added : {slot : ℕ} → answer ≡ Ok slot → (slot < 256) × (added_code (add_of m (ready_in k s)) ≡ 4294967296 * slot)
  slot_added {slot} e = go holds (sym e ∙ promised)
    where
      go : {w : Answer Done} → Holds OneOf256 (Bounded 1 24 256) w → Ok slot ≡ added_of w → (slot < 256) × (added_code w ≡ 4294967296 * slot)
      go (of_given {x} low) e = let same : slot ≡ x.number = cc in rw same (low, refl)
      go (of_refusal b) e = cc

  -- or the refusal
  pub none_added : {r : Refusal} → answer ≡ Err r → Part r × (added_code (add_of m (ready_in k s)) ≡ code r)
  none_added {r} e = go holds (sym e ∙ promised)
    where
      go : {w : Answer Done} → Holds OneOf256 (Bounded 1 24 256) w → Err r ≡ added_of w → Part r × (added_code w ≡ code r)
      go (of_given low) e = cc
      go (of_refusal {r = q} b) e = let same : r ≡ q = cc in rw same ((omega (arith, b), omega (arith, b)), refl)

-- an order has at most 256 slots
few : (n : ℕ) (l : List ℕ) → length (map slot_of (take n l)) ≤ n
few n l = rw (length-map, length-take) (omega arith)

pub order_few : (m : Memory) → length (order_of m) ≤ 256
unfolding order_of
order_few m = omega (arith, few (count_in m.state) m.keys)
