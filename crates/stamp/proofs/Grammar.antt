-- A text of the grammar is a moment, one of four fractions and one of three offsets. Assumes nothing.
use Prim.Native.Nat.{ℕ, ◌+◌, ◌-◌, ◌≤◌, ◌<◌}
use Prim.Native.Char.{code}
use Prim.Native.String.{String}
use native.Mathlib.Omega.{arith}
use mathlib.Core.Path.{◌≡◌, refl, sym, ap, ◌∙◌}
use mathlib.Core.Bool.{Bool, true, false, ◌||◌, cond, or_assoc}
use mathlib.Core.List.{List, [], ◌∷◌, ◌++◌}
use lib.Dec.{ltb}
use lib.ListN.{length, take, drop, length-append}
use lib.Seq.{drop-drop}
use Rattle.digits.specs.Bytes.{bytes_of}
use Rattle.digits.specs.Forms.{of_form}
use Rattle.digits.proofs.Forms.{form_length, form_parts}
use Rattle.calendar.specs.Fixed.{moment_form}
use Rattle.stamp.specs.Grammar.{Rule, date_time, is_of}
use Rattle.stamp.specs.Stamps.{offset_place, fraction_at}

-- the form of a fraction: none, or one to three digits behind a point
pub data FractionForm : List ℕ → Type 0 where
  no_fraction : (f : List ℕ) → of_form (bytes_of "") f ≡ true → FractionForm f
  tenths : (f : List ℕ) → of_form (bytes_of ".0") f ≡ true → FractionForm f
  hundredths : (f : List ℕ) → of_form (bytes_of ".00") f ≡ true → FractionForm f
  thousandths : (f : List ℕ) → of_form (bytes_of ".000") f ≡ true → FractionForm f

-- the form of an offset: "Z", east or west
pub data OffsetForm : List ℕ → Type 0 where
  zulu_form : (u : List ℕ) → of_form (bytes_of "Z") u ≡ true → OffsetForm u
  east_form : (u : List ℕ) → of_form (bytes_of "+00:00") u ≡ true → OffsetForm u
  west_form : (u : List ℕ) → of_form (bytes_of "-00:00") u ≡ true → OffsetForm u

-- a text's moment, its fraction and its offset
pub record Parts (s : List ℕ) : Type 0 where
  pub moment : of_form (moment_form (code "T")) (take 19 s) ≡ true
  pub fraction : FractionForm (fraction_at (offset_place s) s)
  pub offset : OffsetForm (drop (offset_place s) s)
  pub size : 20 ≤ length s

-- whatever follows from each alternative of a rule follows from the rule
abbrev Each : (List ℕ → Type 0) → Rule → Type 0
Each P [] = ⊥ → ⊥
Each P (f ∷ fs) = P f × Each P fs

from_one : (r : Rule) (s : List ℕ) {Q : Type 0} → Each (λ f. of_form f s ≡ true → Q) r → is_of r s ≡ true → Q
unfolding is_of
from_one [] s each h = absurd cc
from_one (f ∷ fs) s {Q} each h = go (of_form f s) refl (from_one fs s each.1)
  where
    go : (b : Bool) → of_form f s ≡ b → (is_of fs s ≡ true → Q) → Q
    go true e others = each.0 e
    go false e others = others (rw e at h)

-- a text of two rules, the one or the other
pub either_of : (a b : Rule) (s : List ℕ) → is_of (a ++ b) s ≡ (is_of a s || is_of b s)
unfolding is_of
either_of [] b s = refl
either_of (f ∷ a) b s = rw (either_of a b s) (sym (or_assoc (of_form f s) (is_of a s) (is_of b s)))

-- the three alternatives with a fraction of the form f, and more
abbrev pub with_fraction : String → Rule → Rule
with_fraction f more =
    (moment_form (code "T") ++ (bytes_of f ++ bytes_of "Z"))
    ∷ (moment_form (code "T") ++ (bytes_of f ++ bytes_of "+00:00"))
    ∷ (moment_form (code "T") ++ (bytes_of f ++ bytes_of "-00:00"))
    ∷ more

-- the grammar by its four fractions
pub by_fraction :
    (s : List ℕ) →
    is_of date_time s
    ≡ (is_of (with_fraction "" []) s || (is_of (with_fraction ".0" []) s || (is_of (with_fraction ".00" []) s || is_of (with_fraction ".000" []) s)))
by_fraction s =
    let three = with_fraction ".000" [] in
    let two = with_fraction ".00" three in
    either_of (with_fraction "" []) (with_fraction ".0" two) s
    ∙ rw (either_of (with_fraction ".0" []) two s, either_of (with_fraction ".00" []) three s)

-- where the offset begins in a text of n bytes
abbrev place_in : ℕ → ℕ
place_in n = n - cond (ltb n 25) 1 6

module _ (s : List ℕ) where
  abbrev parted : List ℕ → Type 0
  parted f = of_form f s ≡ true → Parts s

  -- a text with a fraction of the form f, which is well told, and an offset of the form o
  module _ (f : String) (fraction : (x : List ℕ) → of_form (bytes_of f) x ≡ true → FractionForm x) where
    split :
        (o : String) → ((x : List ℕ) → of_form (bytes_of o) x ≡ true → OffsetForm x) → 0 < length (bytes_of o) →
        place_in (19 + (length (bytes_of f) + length (bytes_of o))) ≡ 19 + length (bytes_of f) →
        parted (moment_form (code "T") ++ (bytes_of f ++ bytes_of o))
    split o offset some fits h =
        let front = moment_form (code "T") in
        let tail = length-append (bytes_of f) (bytes_of o) in
        let whole = form_length (front ++ (bytes_of f ++ bytes_of o)) s h in
        let bytes : length s ≡ 19 + (length (bytes_of f) + length (bytes_of o)) = omega arith in
        let outer = form_parts front (bytes_of f ++ bytes_of o) s h in
        let inner = form_parts (bytes_of f) (bytes_of o) (drop 19 s) outer.1 in
        let place : offset_place s ≡ 19 + length (bytes_of f) = ap place_in bytes ∙ fits in
        let digits : offset_place s - 19 ≡ length (bytes_of f) = omega arith in
        record {
          moment = outer.0;
          fraction = rw digits (fraction _ inner.0);
          offset = rw (place, ← (drop-drop (length (bytes_of f)) 19 s)) (offset _ inner.1);
          size = omega arith;
        }

    -- with each of the three
    with_fraction_lem :
        place_in (19 + (length (bytes_of f) + 1)) ≡ 19 + length (bytes_of f) → place_in (19 + (length (bytes_of f) + 6)) ≡ 19 + length (bytes_of f) →
        (more : Rule) → Each parted more → Each parted (with_fraction f more)
    with_fraction_lem short long more others = (
      split "Z" zulu_form (omega arith) short,
      (split "+00:00" east_form (omega arith) long, (split "-00:00" west_form (omega arith) long, others)),
    )

  pub parts : is_of date_time s ≡ true → Parts s
  parts =
      let three = with_fraction ".000" [] in
      let two = with_fraction ".00" three in
      let one = with_fraction ".0" two in
      from_one date_time s
      (with_fraction_lem "" no_fraction refl refl one
      (with_fraction_lem ".0" tenths refl refl two
      (with_fraction_lem ".00" hundredths refl refl three
      (with_fraction_lem ".000" thousandths refl refl [] (λ none. none)))))
