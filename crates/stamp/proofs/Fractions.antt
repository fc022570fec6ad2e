-- Fractions of a second that are read and written. Assumes nothing.
use Prim.Native.Nat.{ℕ, ◌+◌, ◌-◌, ◌*◌, ◌/◌, ◌≤◌, ◌<◌}
use Prim.Native.Char.{code}
use native.Mathlib.Omega.{arith}
use mathlib.Core.Path.{◌≡◌, refl}
use mathlib.Core.Bool.{Bool, true, false, cond}
use mathlib.Core.List.{List, [], ◌∷◌}
use lib.Dec.{eqb}
use lib.ListN.{length, get_or}
use borrow.Author.Tests.{eqb-true, eqb-false}
use Rattle.digits.specs.Bytes.{bytes_of, same}
use Rattle.digits.specs.Digits.{digit_of}
use Rattle.digits.specs.Forms.{of_form}
use Rattle.digits.proofs.Again.{IsDigit, test_digit}
use Rattle.digits.proofs.Bytes.{same_true}
use Rattle.digits.proofs.Forms.{form_at, form_length}
use Rattle.digits.proofs.Tabled.{listed}
use Rattle.calendar.proofs.Again.{mark}
use Rattle.stamp.specs.Stamps.{millisecond_in, fraction_text, plain_fraction}
use Rattle.stamp.proofs.Grammar.{FractionForm, no_fraction, tenths, hundredths, thousandths}

-- its text has at most four bytes
pub fraction_short : (ms : ℕ) → length (fraction_text ms) ≤ 4
fraction_short ms = go (eqb ms 0) refl
  where
    go : (b : Bool) → eqb ms 0 ≡ b → length (fraction_text ms) ≤ 4
    go true e = rw e (omega arith)
    go false e = rw e (omega arith)

-- three digits say the milliseconds that they are the digits of
pub three_say : (n : ℕ) → n < 1000 → 100 * (digit_of (n / 10 / 10) - 48) + 10 * (digit_of (n / 10) - 48) + (digit_of n - 48) ≡ n
three_say n h = omega arith

-- three digits, read and written again: none where all are zero
module _ (a b c : ℕ) (p : IsDigit a) (q : IsDigit b) (r : IsDigit c) where
  abbrev said : ℕ
  said = 100 * (a - 48) + 10 * (b - 48) + (c - 48)

  abbrev digits : List ℕ
  digits = code "." ∷ a ∷ b ∷ c ∷ []

  hundreds : digit_of (said / 10 / 10) ≡ a
  hundreds = omega arith

  tens : digit_of (said / 10) ≡ b
  tens = omega arith

  ones : digit_of said ≡ c
  ones = omega arith

  three_again : fraction_text said ≡ cond (same digits (bytes_of ".000")) [] digits
  three_again = go (eqb said 0) refl
    where
      go : (z : Bool) → eqb said 0 ≡ z → fraction_text said ≡ cond (same digits (bytes_of ".000")) [] digits
      go true e =
          let none = eqb-true said 0 e in
          let x : a ≡ 48 = omega arith in
          let y : b ≡ 48 = omega arith in
          let z : c ≡ 48 = omega arith in
          rw e (rw (x, y, z))
      go false e = rw (e, hundreds, tens, ones) (some (same digits (bytes_of ".000")) refl)
        where
          some : (z : Bool) → same digits (bytes_of ".000") ≡ z → digits ≡ cond z [] digits
          some true f =
              let zeros = same_true digits (bytes_of ".000") f in
              let x : a ≡ 48 = cc in
              let y : b ≡ 48 = cc in
              let z : c ≡ 48 = cc in
              absurd (eqb-false said 0 e (omega arith))
          some false f = refl

zero : IsDigit 48
zero = record { low = omega arith; high = omega arith }

module _ (f form : List ℕ) (h : of_form form f ≡ true) where
  point : get_or form 0 0 ≡ code "." → 0 < length form → get_or f 0 0 ≡ code "."
  point e l = mark f 0 (code ".") (omega arith) (rw e at (form_at form f h 0 l))

  digit : (i : ℕ) → i < length form → get_or form i 0 ≡ 48 → IsDigit (get_or f i 0)
  digit i l e = test_digit (get_or f i 0) (rw e at (form_at form f h i l))

-- a fraction of the grammar, read and written again
pub fraction_plain : {f : List ℕ} → FractionForm f → fraction_text (millisecond_in f) ≡ plain_fraction f
fraction_plain (no_fraction f h) = rw (listed f 0 (form_length (bytes_of "") f h))
fraction_plain (tenths f h) =
    let at = digit f (bytes_of ".0") h in
    rw (listed f 2 (form_length (bytes_of ".0") f h), point f (bytes_of ".0") h refl (omega arith))
    (three_again (get_or f 1 0) 48 48 (at 1 (omega arith) refl) zero zero)
fraction_plain (hundredths f h) =
    let at = digit f (bytes_of ".00") h in
    rw (listed f 3 (form_length (bytes_of ".00") f h), point f (bytes_of ".00") h refl (omega arith))
    (three_again (get_or f 1 0) (get_or f 2 0) 48 (at 1 (omega arith) refl) (at 2 (omega arith) refl) zero)
fraction_plain (thousandths f h) =
    let at = digit f (bytes_of ".000") h in
    rw (listed f 4 (form_length (bytes_of ".000") f h), point f (bytes_of ".000") h refl (omega arith))
    (three_again (get_or f 1 0) (get_or f 2 0) (get_or f 3 0) (at 1 (omega arith) refl) (at 2 (omega arith) refl) (at 3 (omega arith) refl))
