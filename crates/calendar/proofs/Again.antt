-- A text of the fixed form is its own moment, written with its own mark. Assumes nothing.
use Prim.Native.Nat.{ℕ, ◌+◌, ◌≤◌, ◌<◌}
use Prim.Native.Char.{code}
use native.Mathlib.Omega.{arith}
use mathlib.Core.Path.{◌≡◌}
use mathlib.Core.Bool.{true}
use mathlib.Core.List.{List, ◌++◌, map}
use lib.Dec.{eqb}
use lib.ListN.{get_or}
use borrow.Author.Tests.{eqb-true}
use Rattle.digits.specs.Bytes.{capital_of}
use Rattle.digits.specs.Digits.{is_digit}
use Rattle.digits.specs.Forms.{of_form}
use Rattle.digits.proofs.Again.{TwoAgain, test_digit, two_again, four_again}
use Rattle.digits.proofs.Capitals.{capital_digit, capital_other}
use Rattle.digits.proofs.Forms.{form_at, form_length}
use Rattle.digits.proofs.Tabled.{listed}
use Rattle.calendar.specs.Fixed.{moment_form, moment_text, moment_in}
use Rattle.calendar.specs.declared.moments.Moment.{Moment}

-- two digits at a place
pub pair : (s : List ℕ) (i : ℕ) → is_digit (get_or s i 0) ≡ true → is_digit (get_or s (i + 1) 0) ≡ true → TwoAgain (get_or s i 0) (get_or s (i + 1) 0)
pair s i p q = two_again (test_digit _ p) (test_digit _ q)

-- a mark at a place
pub mark : (s : List ℕ) (i k : ℕ) → k < 65 → eqb (capital_of (get_or s i 0)) k ≡ true → get_or s i 0 ≡ k
mark s i k l e = capital_other (get_or s i 0) k l (eqb-true _ _ e)

-- whatever follows
pub moment_again : (m ms : ℕ) (s rest : List ℕ) → of_form (moment_form m) s ≡ true → moment_text (get_or s 10 0) (moment_in ms (s ++ rest)) ≡ s
moment_again m ms s rest h =
    let fits = form_at (moment_form m) s h in
    let century = pair s 0 (fits 0 (omega arith)) (fits 1 (omega arith)) in
    let single = pair s 2 (fits 2 (omega arith)) (fits 3 (omega arith)) in
    let year = four_again _ _ century.below single.below in
    let month = pair s 5 (fits 5 (omega arith)) (fits 6 (omega arith)) in
    let day = pair s 8 (fits 8 (omega arith)) (fits 9 (omega arith)) in
    let hour = pair s 11 (fits 11 (omega arith)) (fits 12 (omega arith)) in
    let minute = pair s 14 (fits 14 (omega arith)) (fits 15 (omega arith)) in
    let second = pair s 17 (fits 17 (omega arith)) (fits 18 (omega arith)) in
    rw (listed s 19 (form_length (moment_form m) s h))
    (rw (
      year.thousands,
      year.hundreds,
      year.tens,
      year.ones,
      century.tens,
      century.ones,
      single.tens,
      single.ones,
      month.tens,
      month.ones,
      day.tens,
      day.ones,
      hour.tens,
      hour.ones,
      minute.tens,
      minute.ones,
      second.tens,
      second.ones,
      mark s 4 (code "-") (omega arith) (fits 4 (omega arith)),
      mark s 7 (code "-") (omega arith) (fits 7 (omega arith)),
      mark s 13 (code ":") (omega arith) (fits 13 (omega arith)),
      mark s 16 (code ":") (omega arith) (fits 16 (omega arith)),
    ))

-- its year has four digits
pub year_most : (m ms : ℕ) (s rest : List ℕ) → of_form (moment_form m) s ≡ true → (moment_in ms (s ++ rest)).year ≤ 9999
year_most m ms s rest h =
    let fits = form_at (moment_form m) s h in
    let century = pair s 0 (fits 0 (omega arith)) (fits 1 (omega arith)) in
    let single = pair s 2 (fits 2 (omega arith)) (fits 3 (omega arith)) in
    rw (listed s 19 (form_length (moment_form m) s h)) (omega (arith, century.below, single.below))

-- in capitals, only the mark changes
pub moment_capitals : (m : ℕ) (t : Moment) → map capital_of (moment_text m t) ≡ moment_text (capital_of m) t
moment_capitals m t = simp capital_digit
