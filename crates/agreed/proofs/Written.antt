-- A text that a call wrote, or did not write for a refusal. Assumes nothing.
use Prim.Native.Nat.{ℕ, ◌≤◌}
use native.Mathlib.Omega.{arith}
use mathlib.Core.Path.{◌≡◌, refl}
use mathlib.Core.List.{List}
use lib.ListN.{length, take}
use Rattle.refusals.specs.Answers.{Answer, given}
use Rattle.refusals.specs.Writings.{buffer_of}
use Rattle.refusals.proofs.Holds.{Holds, of_given, of_refusal, Bounded}
use Rattle.digits.proofs.Stores.{sets-taken}
use Rattle.fuzzydate.specs.Called.{written_code}
use Rattle.agreed.specs.Calls.{number, size}
use Rattle.agreed.proofs.AnyNow.{Tells}

-- what a writing of the definitions becomes in a call
abbrev pub Writes : Answer (List ℕ) → List ℕ → ℕ → List ℕ → Type 0
Writes w text k text' = Tells written_code (λ x l. buffer_of l x) w text k text'

-- a text that fits stands in front, in as many bytes as the answer says
pub in_front_lem : (s : List ℕ) {text text' : List ℕ} {k : ℕ} → length s ≤ length text → Writes (given s) text k text' → take (size k) text' ≡ s
in_front_lem s {text} {text'} {k} fits m =
    let cut : size k ≡ length s = omega (arith, m.number_is) in
    rw (cut, m.array'_is) (sets-taken s text fits (length s) refl)

-- what holds of a text that is written holds of the bytes that the answer counts; and a refusal writes nothing
pub written_so :
    {P Q : List ℕ → Type 0} {high : ℕ} {w : Answer (List ℕ)} {text text' : List ℕ} {k : ℕ} → Holds P (Bounded 8 high 0) w →
    ((s : List ℕ) → P s → length s ≤ length text) → ((s : List ℕ) → w ≡ given s → Q s) → high ≤ 17 → Writes w text k text' →
    (number k ≡ 0 → Q (take (size k) text')) × ((number k ≡ 0 → ⊥) → text' ≡ text)
written_so (of_given {x} p) fits so low m = (λ z. rw (in_front_lem x (fits x p) m) (so x refl), λ other. absurd (other (omega (arith, m.number_is))))
written_so (of_refusal {r} b) fits so low m = (λ z. absurd (omega (arith, z, m.number_is, b.least, b.most, low)), λ other. m.array'_is)
