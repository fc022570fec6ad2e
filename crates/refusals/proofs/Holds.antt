-- What holds of an answer: of what is given, and of a refusal, its number and its part. Assumes nothing.
use Prim.Native.Nat.{ℕ, ◌≤◌, ◌<◌, zero-le}
use native.Mathlib.Omega.{arith}
use mathlib.Core.Path.{◌≡◌, refl}
use Rattle.refusals.specs.Table.{number_of}
use Rattle.refusals.specs.Answers.{Answer, given, refused, and_then, place_of, end_of, number_in}
use Rattle.refusals.specs.declared.Refusal.{Refusal}

-- one thing of what is given, another of a refusal
pub data Holds {A : Type 0} (P : A → Type 0) (Q : Refusal → Type 0) : Answer A → Type 0 where
  of_given : {x : A} → P x → Holds P Q (given x)
  of_refusal : {r : Refusal} → Q r → Holds P Q (refused r)

-- a number of low to high, and a part within the first n bytes
pub record Bounded (low high n : ℕ) (r : Refusal) : Type 0 where
  pub least : low ≤ number_of r.reason
  pub most : number_of r.reason ≤ high
  pub start : r.place ≤ r.end
  pub within : r.end ≤ n

module _ {A : Type 0} {P : A → Type 0} {Q : Refusal → Type 0} where
  -- by what the answer is
  pub given_holds : {w : Answer A} {x : A} → Holds P Q w → w ≡ given x → P x
  given_holds h e = go (rw e at h)
    where
      go : {x : A} → Holds P Q (given x) → P x
      go (of_given p) = p

  pub refusal_holds : {w : Answer A} {r : Refusal} → Holds P Q w → w ≡ refused r → Q r
  refusal_holds h e = go (rw e at h)
    where
      go : {r : Refusal} → Holds P Q (refused r) → Q r
      go (of_refusal q) = q

-- what is answered behind an answer
pub then_holds :
    {A B : Type 0} {P : A → Type 0} {S : B → Type 0} {Q : Refusal → Type 0} {w : Answer A} (f : A → Answer B) →
    Holds P Q w → ((x : A) → P x → Holds S Q (f x)) → Holds S Q (and_then w f)
then_holds f (of_given {x} p) h = h x p
then_holds f (of_refusal q) h = of_refusal q

-- an answer that is given
pub record Given {A : Type 0} (P : A → Type 0) (w : Answer A) : Type 0 where
  pub value : A
  pub is : w ≡ given value
  pub holds : P value

module _ {A : Type 0} {P : A → Type 0} {low high n : ℕ} where
  -- the offending part lies within those bytes, also where nothing is refused
  pub part_within : {w : Answer A} → Holds P (Bounded low high n) w → (place_of w ≤ end_of w) × (end_of w ≤ n)
  part_within (of_given p) = (zero-le, zero-le)
  part_within (of_refusal q) = (q.start, q.within)

  -- number 0 is an answer
  pub number_zero : {w : Answer A} → Holds P (Bounded low high n) w → 0 < low → number_in w ≡ 0 → Given P w
  number_zero (of_given {x} p) h z = record { value = x; is = refl; holds = p }
  number_zero (of_refusal q) h z = absurd (omega arith)

-- a refusal that an answer is
pub record Refusing {A : Type 0} (w : Answer A) : Type 0 where
  pub refusal : Refusal
  pub is : w ≡ refused refusal

-- any other is its refusal
pub number_other : {A : Type 0} (w : Answer A) → (number_in w ≡ 0 → ⊥) → Refusing w
number_other (given x) z = absurd (z refl)
number_other (refused r) z = record { refusal = r; is = refl }
