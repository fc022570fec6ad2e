-- Demand 3: a phrase made ready and run at any now, valid or not, gives the answer of the phrase at that now; and what is made.
use Prim.Native.Nat.{ℕ, ◌*◌, ◌≤◌, min}
use native.Mathlib.Omega.{arith}
use mathlib.Core.Path.{◌≡◌, refl, ap}
use mathlib.Core.Bool.{true, cond}
use mathlib.Core.List.{List}
use borrow.Author.Tests.{le-leb}
use lib.ListN.{length}
use Rattle.refusals.specs.declared.Reason.TheVariants.{InvalidMoment}
use Rattle.refusals.specs.Answers.{given, refused, and_then}
use Rattle.refusals.specs.declared.Refusal.{Refusal}
use Rattle.refusals.proofs.Holds.{Holds, of_given, of_refusal, Bounded, given_holds, refusal_holds}
use Rattle.calendar.specs.Moments.{Reach, refused as unreached, Outcome, is_moment}
use Rattle.calendar.specs.declared.moments.Moment.{Moment}
use Rattle.lexer.specs.Keywords.{words_in}
use Rattle.lexer.specs.declared.reading.Reading.{Reading}
use Rattle.phrase.specs.Chains.{size_tree}
use Rattle.phrase.specs.Read.{ReadPhrase, read_of}
use Rattle.phrase.specs.Tree.{DateTime}
use Rattle.phrase.proofs.Small.{read_small}
use Rattle.phrase.proofs.Phrases.{ReadWhole, read_holds}
use Rattle.evaluation.specs.Worlds.{World, offset, Lawful}
use Rattle.evaluation.specs.Evaluate.{evaluate_in}
use Rattle.answer.specs.Answer.{placed, answer_of}
use Rattle.steps.specs.Joining.{all_apart}
use Rattle.steps.specs.Running.{is_list, run_in, run_of}
use Rattle.steps.proofs.Offsets.{Any, offset_lawful}
use Rattle.steps.proofs.Small.{SmallStep, All, all_smaller}
use Rattle.steps.specs.declared.plan.Step.{Step}
use Rattle.ready.specs.Bounds.{widest}
use Rattle.ready.specs.Made.{steps_of}
use Rattle.ready.specs.Ready.{ready_of, run_ready}
use Rattle.ready.proofs.Made.{at_most_24, neighbours_apart, made_formed}
use Rattle.ready.proofs.Small.{tree_parts}
use Rattle.ready.proofs.Runs.{tree_runs}

-- what is made is a list that can be run
made_list : (x : DateTime) → size_tree x ≤ 21 → is_list (steps_of x) ≡ true
made_list x few = rw (le-leb (length (steps_of x)) 24 (at_most_24 x few), made_formed x)

-- in every lawful world: running what is made is evaluating what was read
pub made_runs :
    {S : Type 0} (w : World S) (Good : S → Type 0) (lawful : Lawful w Good) (x : DateTime) → size_tree x ≤ 21 → (n : S) → Good n →
    run_in w (steps_of x) n ≡ evaluate_in w x n
unfolding run_in
made_runs w Good lawful x few n good = rw (made_list x few) (tree_runs w Good lawful n good x)

-- a call that enters a world at a good now, or refuses: what it does is the same where it is the same at every good now
pub record Enters {S : Type 0} (Good : S → Type 0) (enter : (S → Reach S) → Reach S) : Type 0 where
  pub same : (f g : S → Reach S) → ((n : S) → Good n → f n ≡ g n) → enter f ≡ enter g

-- so for every reading and every phrase, running what was made equals the answer of what was read
pub ready_answers_in :
    {S : Type 0} (w : World S) (Good : S → Type 0) (lawful : Lawful w Good) (enter : (S → Reach S) → Reach S) → Enters Good enter →
    (reading : Reading) (s : List ℕ) →
    and_then (ready_of reading (words_in reading) s) (λ ss. placed (enter (run_in w ss)))
    ≡ and_then (read_of reading (words_in reading) s) (λ x. placed (enter (evaluate_in w x.tree)))
unfolding ready_of
ready_answers_in {S} w Good lawful enter enters reading s = go (read_holds reading s)
  where
    go : {r : ReadPhrase} → Holds (ReadWhole reading s) (Bounded 1 7 (min (length s) 256)) r →
        and_then (and_then r (λ x. given (steps_of x.tree))) (λ ss. placed (enter (run_in w ss)))
        ≡ and_then r (λ x. placed (enter (evaluate_in w x.tree)))
    go (of_given {x} whole) =
        ap (λ (o : Reach S). placed o)
        (enters.same (run_in w (steps_of x.tree)) (evaluate_in w x.tree) (made_runs w Good lawful x.tree whole.few))
    go (of_refusal b) = refl

-- at a fixed offset and every now, valid or not, that is `answer_of`
pub ready_answers : (reading : Reading) (s : List ℕ) (n : Moment) → run_ready (ready_of reading (words_in reading) s) n ≡ answer_of reading (words_in reading) s n
unfolding answer_of run_of
ready_answers reading s n =
    ready_answers_in offset Any offset_lawful (λ f. cond (is_moment n) (f n) (unreached InvalidMoment))
    (record { same = λ f g e. ap (λ (o : Outcome). cond (is_moment n) o (unreached InvalidMoment)) (e n tt) }) reading s

-- making ready refuses exactly when reading refuses, with the same number, place and part
pub refuses_as_reading : (reading : Reading) (s : List ℕ) {r : Refusal} → ready_of reading (words_in reading) s ≡ refused r → read_of reading (words_in reading) s ≡ refused r
unfolding ready_of
refuses_as_reading reading s {r} h = go (read_of reading (words_in reading) s) h
  where
    go : (w : ReadPhrase) → and_then w (λ x. given (steps_of x.tree)) ≡ refused r → w ≡ refused r
    go (given x) h = cc
    go (refused q) h = cc

pub reading_refuses : (reading : Reading) (s : List ℕ) {r : Refusal} → read_of reading (words_in reading) s ≡ refused r → ready_of reading (words_in reading) s ≡ refused r
unfolding ready_of
reading_refuses reading s h = rw h

-- what every list has that a phrase is made ready as: "at most 24 calendar steps, no two fixed lengths of one direction side by side",
-- the form that running asks for, and numbers that fit
pub record MadeReady (ss : List Step) : Type 0 where
  pub most : length ss ≤ 24
  pub apart : all_apart ss ≡ true
  pub list : is_list ss ≡ true
  pub small : All (SmallStep (24 * widest)) ss

-- such a list is made, or the refusal is of 1 to 7, with a part within the phrase and the 256 bytes that it may have
pub made_ready : (reading : Reading) (s : List ℕ) → Holds MadeReady (Bounded 1 7 (min (length s) 256)) (ready_of reading (words_in reading) s)
unfolding ready_of
made_ready reading s = go (read_of reading (words_in reading) s) refl
  where
    go : (w : ReadPhrase) → read_of reading (words_in reading) s ≡ w →
        Holds MadeReady (Bounded 1 7 (min (length s) 256)) (and_then w (λ x. given (steps_of x.tree)))
    go (given x) h =
        let few = (given_holds (read_holds reading s) h).few in
        of_given (record {
          most = at_most_24 x.tree few;
          apart = neighbours_apart x.tree;
          list = made_list x.tree few;
          small = all_smaller (omega arith) (tree_parts x.tree (given_holds (read_small reading (words_in reading) s) h)).all;
        })
    go (refused r) h = of_refusal (refusal_holds (read_holds reading s) h)
