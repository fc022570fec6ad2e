-- A ready phrase handed on by its number: the bytes that it says are those of the steps, whatever the array held.
use Prim.Native.Nat.{ℕ, ◌/◌, ◌%◌, ◌≤◌}
use native.Mathlib.Omega.{arith}
use mathlib.Core.Path.{◌≡◌, refl, ap, ◌∙◌}
use mathlib.Core.List.{List}
use lib.ListN.{length, take}
use lib.Seq.{length-sets}
use Rattle.refusals.specs.Answers.{given, refused}
use Rattle.refusals.specs.declared.Refusal.{Refusal}
use Rattle.refusals.proofs.Holds.{Holds, of_given, of_refusal, Bounded, Given}
use Rattle.digits.proofs.Stores.{sets-taken}
use Rattle.steps.specs.declared.plan.Step.{Step}
use Rattle.ready.specs.Ready.{ReadyPhrase}
use Rattle.ready.proofs.ReadyPhrases.{MadeReady}
use Rattle.records.specs.Records.{encode_of}
use Rattle.records.proofs.Lists.{length-encoded}
use Rattle.fuzzydate.specs.Called.{ready_in, ready_code, ready_after}
use Rattle.fuzzydate.proofs.Readings.{made_in}

-- what is cut off by the number of so many steps is their records
pub cut_off :
    (ss : List Step) (lent : List ℕ) {number : ℕ} → length ss ≤ 24 → length lent ≡ 384 → number ≡ ready_code (given ss) →
    take (number / 4294967296) (ready_after (given ss) lent) ≡ encode_of ss
cut_off ss lent {number} few room e =
    let long = length-encoded ss in
    let cut : number / 4294967296 ≡ length (encode_of ss) = omega arith in
    rw cut (sets-taken (encode_of ss) lent (omega arith) (length (encode_of ss)) refl)

-- 0 in the low 16 bits stands for steps
zero-given : {m : ℕ} {w : ReadyPhrase} → Holds MadeReady (Bounded 1 15 m) w → ready_code w % 65536 ≡ 0 → Given MadeReady w
zero-given (of_given {x} p) e = record { value = x; is = refl; holds = p }
zero-given (of_refusal b) e = absurd (omega arith)

-- what is handed on
pub record HandedOn (k : ℕ) (s : List ℕ) (number : ℕ) (array : List ℕ) : Type 0 where
  pub list : List Step
  pub is : ready_in k s ≡ given list
  pub bytes : take (number / 4294967296) array ≡ encode_of list
  pub fits : number / 4294967296 ≤ length array

-- a refusal that its number stands for
pub record Refuses (k : ℕ) (s : List ℕ) (number : ℕ) : Type 0 where
  pub refusal : Refusal
  pub is : ready_in k s ≡ refused refusal

module _ (k : ℕ) (s : List ℕ) {number : ℕ} (said : number ≡ ready_code (ready_in k s)) where
  pub handed_on : (lent : List ℕ) {array : List ℕ} → length lent ≡ 384 → array ≡ ready_after (ready_in k s) lent → number % 65536 ≡ 0 → HandedOn k s number array
  handed_on lent room left zero =
      let made = zero-given (made_in k s) (rw said at zero) in
      let ss = made.value in
      let count = said ∙ ap ready_code made.is in
      let after = left ∙ ap (λ (w : ReadyPhrase). ready_after w lent) made.is in
      let size = ap length after ∙ length-sets lent 0 (encode_of ss) in
      record {
        list = ss;
        is = made.is;
        bytes = rw after (cut_off ss lent made.holds.most room count);
        fits = omega (arith, made.holds.most, size, room, count);
      }

  -- any other for a refusal
  pub not-handed : (number % 65536 ≡ 0 → ⊥) → Refuses k s number
  not-handed other = go (ready_in k s) refl
    where
      go : (w : ReadyPhrase) → ready_in k s ≡ w → Refuses k s number
      go (given ss) e = let count = said ∙ ap ready_code e in absurd (other (omega arith))
      go (refused r) e = record { refusal = r; is = e }
