-- Letters in either case are read the same. Assumes nothing.
use Prim.Native.Nat.{ℕ, zero, suc, ◌+◌, ◌-◌, ◌<◌}
use native.Mathlib.Omega.{arith}
use mathlib.Core.Path.{◌≡◌, refl, sym, ap, ap₂, ◌∙◌}
use mathlib.Core.Bool.{Bool, true, false, ◌&&◌, cond, and-eq-true_iff, and-false}
use mathlib.Core.List.{List, [], ◌∷◌, map}
use lib.Bits.{bit_or}
use lib.Dec.{eqb, ltb, leb}
use Rattle.std.proofs.Common.{Some, None}
use Rattle.std.specs.Option.{option_and_then}
use lib.ListN.{length, get_or, take, drop, get_or-map}
use borrow.Author.Tests.{eq-eqb, ne_eqb, eqb-true, eqb-false, leb-true, lt-leb}
use Rattle.digits.specs.Bytes.{bytes_of, capital_of}
use Rattle.digits.specs.Digits.{is_digit, value_from, two_at}
use Rattle.digits.specs.Forms.{in_place, of_form}
use Rattle.digits.proofs.Again.{test_digit}
use Rattle.digits.proofs.Capitals.{capital_before, capital_other}
use Rattle.digits.proofs.Forms.{form_at}
use Rattle.rules.specs.Cut.{in_front, pieces}
use Rattle.rules.specs.Numbers.{all_digits, number_in, number_to, without_plus}
use Rattle.rules.specs.Days.{day_bit, bits_of, days_in}
use Rattle.rules.specs.Untils.{count_in, day_in, moment_in, until_in}
use Rattle.rules.specs.Parts.{named, part_of}
use Rattle.rules.specs.Rules.{begun, put, read_parts, read_pieces, rule_answer, read_rule}
use Rattle.rules.specs.declared.draft.Draft.{Draft}
use Rattle.rules.proofs.Orders.{same_then}

-- a text in capitals
abbrev capitals : List ℕ → List ℕ
capitals s = map capital_of s

-- a capital is its own, and a digit exactly where the byte is one
module _ (b : ℕ) where
  capital_again : capital_of (capital_of b) ≡ capital_of b
  capital_again = go (leb 97 b) refl (leb b 122) refl
    where
      go : (x : Bool) → leb 97 b ≡ x → (y : Bool) → leb b 122 ≡ y → capital_of (cond (x && y) (b - 32) b) ≡ cond (x && y) (b - 32) b
      go true e true f = let most = leb-true b 122 f in capital_before (b - 32) (omega arith)
      go true e false f = rw (e, f)
      go false e y f = rw e

  digit_capital : is_digit (capital_of b) ≡ is_digit b
  digit_capital = go (leb 97 b) refl (leb b 122)
    where
      go : (x : Bool) → leb 97 b ≡ x → (y : Bool) → is_digit (cond (x && y) (b - 32) b) ≡ is_digit b
      go true e true =
          let least = leb-true 97 b e in
          rw (lt-leb (b - 32) 57 (omega arith), lt-leb b 57 (omega arith)) (and-false (leb 48 (b - 32)) ∙ sym (and-false (leb 48 b)))
      go true e false = refl
      go false e y = refl

-- a text of a form
place_capital : (f b : ℕ) → in_place f (capital_of b) ≡ in_place f b
place_capital f b = go (eqb f 48)
  where
    go : (t : Bool) → cond t (is_digit (capital_of b)) (eqb (capital_of (capital_of b)) (capital_of f)) ≡ cond t (is_digit b) (eqb (capital_of b) (capital_of f))
    go true = digit_capital b
    go false = ap (λ x. eqb x (capital_of f)) (capital_again b)

form_capitals : (f s : List ℕ) → of_form f (capitals s) ≡ of_form f s
form_capitals [] [] = refl
form_capitals [] (b ∷ s) = refl
form_capitals (x ∷ f) [] = refl
form_capitals (x ∷ f) (b ∷ s) = ap₂ ◌&&◌ (place_capital x b) (form_capitals f s)

-- a mark before the letters, and a text cut at it
mark_capital : (k b : ℕ) → k < 65 → eqb (capital_of b) k ≡ eqb b k
mark_capital k b l = go (eqb b k) refl
  where
    go : (t : Bool) → eqb b k ≡ t → eqb (capital_of b) k ≡ t
    go true e = let same = eqb-true b k e in eq-eqb (capital_of b) k (capital_before b (omega arith) ∙ same)
    go false e = ne_eqb (capital_of b) k (λ h. eqb-false b k e (capital_other b k l h))

front_capital : (b : ℕ) (ps : List (List ℕ)) → in_front (capital_of b) (map capitals ps) ≡ map capitals (in_front b ps)
front_capital b [] = refl
front_capital b (p ∷ ps) = refl

pieces_capitals : (k : ℕ) (s : List ℕ) → k < 65 → pieces k (capitals s) ≡ map capitals (pieces k s)
pieces_capitals k [] l = refl
pieces_capitals k (b ∷ s) l = rw (mark_capital k b l) (go (eqb b k) (pieces_capitals k s l))
  where
    go : (t : Bool) → pieces k (capitals s) ≡ map capitals (pieces k s)
        → cond t ([] ∷ pieces k (capitals s)) (in_front (capital_of b) (pieces k (capitals s)))
        ≡ map capitals (cond t ([] ∷ pieces k s) (in_front b (pieces k s)))
    go true h = ap (λ x. [] ∷ x) h
    go false h = ap (in_front (capital_of b)) h ∙ front_capital b (pieces k s)

-- the front and the rest of a text
take-capitals : (n : ℕ) (s : List ℕ) → take n (capitals s) ≡ capitals (take n s)
take-capitals zero s = refl
take-capitals (suc n) [] = refl
take-capitals (suc n) (b ∷ s) = ap (λ x. capital_of b ∷ x) (take-capitals n s)

drop-capitals : (n : ℕ) (s : List ℕ) → drop n (capitals s) ≡ capitals (drop n s)
drop-capitals zero s = refl
drop-capitals (suc n) [] = refl
drop-capitals (suc n) (b ∷ s) = drop-capitals n s

named_capitals : (n p : List ℕ) → named n (capitals p) ≡ named n p
unfolding named
named_capitals n p = ap (of_form n) (take-capitals (length n) p) ∙ form_capitals n (take (length n) p)

-- numbers
all_capitals : (s : List ℕ) → all_digits (capitals s) ≡ all_digits s
all_capitals [] = refl
all_capitals (b ∷ s) = ap₂ ◌&&◌ (digit_capital b) (all_capitals s)

digits_stay : (s : List ℕ) → all_digits s ≡ true → capitals s ≡ s
digits_stay [] h = refl
digits_stay (b ∷ s) h =
    let both = (and-eq-true_iff (is_digit b) (all_digits s)).0 h in
    let digit = test_digit b both.0 in
    ap₂ ◌∷◌ (capital_before b (omega arith)) (digits_stay s both.1)

in_capitals : (s : List ℕ) → number_in (capitals s) ≡ number_in s
in_capitals s = rw (all_capitals s) (go (all_digits s) refl)
  where
    go : (t : Bool) → all_digits s ≡ t → cond t (value_from 0 (capitals s)) 0 ≡ cond t (value_from 0 s) 0
    go true e = ap (value_from 0) (digits_stay s e)
    go false e = refl

number_capitals : (m : ℕ) (s : List ℕ) → number_to m (capitals s) ≡ number_to m s
unfolding number_to
number_capitals m s = ap (λ n. cond (ltb 0 n && leb n m) (Some n) None) (in_capitals s)

plus_capitals : (s : List ℕ) → without_plus (capitals s) ≡ capitals (without_plus s)
plus_capitals [] = refl
plus_capitals (b ∷ s) = rw (mark_capital 43 b (omega arith)) (go (eqb b 43))
  where
    go : (t : Bool) → cond t (capitals s) (capital_of b ∷ capitals s) ≡ capitals (cond t s (b ∷ s))
    go true = refl
    go false = refl

-- weekdays
day_capitals : (p : List ℕ) → day_bit (capitals p) ≡ day_bit p
unfolding day_bit
day_capitals p =
    rw (
      form_capitals (bytes_of "MO") p,
      form_capitals (bytes_of "TU") p,
      form_capitals (bytes_of "WE") p,
      form_capitals (bytes_of "TH") p,
      form_capitals (bytes_of "FR") p,
      form_capitals (bytes_of "SA") p,
      form_capitals (bytes_of "SU") p,
    )

bits_capitals : (n : ℕ) (ps : List (List ℕ)) → bits_of n (map capitals ps) ≡ bits_of n ps
bits_capitals n [] = refl
bits_capitals n (p ∷ ps) =
    rw (day_capitals p) (same_then (day_bit p) (λ b. bits_of (bit_or n b) (map capitals ps)) (λ b. bits_of (bit_or n b) ps) (λ b. bits_capitals (bit_or n b) ps))

days_capitals : (s : List ℕ) → days_in (capitals s) ≡ days_in s
unfolding days_in
days_capitals s = ap (bits_of 0) (pieces_capitals 44 s (omega arith)) ∙ bits_capitals 0 (pieces 44 s)

-- the digits of a form
module _ (f s : List ℕ) (h : of_form f s ≡ true) where
  digit_stays : (i : ℕ) → i < length f → get_or f i 0 ≡ 48 → get_or (capitals s) i 0 ≡ get_or s i 0
  digit_stays i l zero-there =
      let digit = test_digit (get_or s i 0) (rw zero-there at (form_at f s h i l)) in
      get_or-map capital_of s i 0 ∙ capital_before (get_or s i 0) (omega arith)

  two_stay : (a : ℕ) → a + 1 < length f → get_or f a 0 ≡ 48 → get_or f (a + 1) 0 ≡ 48 → two_at (capitals s) a ≡ two_at s a
  two_stay a l x y = rw (digit_stays a (omega arith) x, digit_stays (a + 1) l y)

until_capitals : (s : List ℕ) → until_in (capitals s) ≡ until_in s
unfolding until_in
until_capitals s =
    rw (form_capitals (bytes_of "00000000") s, form_capitals (bytes_of "00000000T000000") s)
    (go (of_form (bytes_of "00000000") s) refl (of_form (bytes_of "00000000T000000") s) refl)
  where
    go : (x : Bool) → of_form (bytes_of "00000000") s ≡ x → (y : Bool) → of_form (bytes_of "00000000T000000") s ≡ y
        → cond x (day_in (capitals s)) (cond y (moment_in (capitals s)) None) ≡ cond x (day_in s) (cond y (moment_in s) None)
    go true h y i =
        let two = two_stay (bytes_of "00000000") s h in
        rw (two 0 (omega arith) refl refl, two 2 (omega arith) refl refl, two 4 (omega arith) refl refl, two 6 (omega arith) refl refl)
    go false h true i =
        let two = two_stay (bytes_of "00000000T000000") s i in
        rw (
          two 0 (omega arith) refl refl,
          two 2 (omega arith) refl refl,
          two 4 (omega arith) refl refl,
          two 6 (omega arith) refl refl,
          two 9 (omega arith) refl refl,
          two 11 (omega arith) refl refl,
          two 13 (omega arith) refl refl,
        )
    go false h false i = refl

-- a part
part_capitals : (p : List ℕ) → part_of (capitals p) ≡ part_of p
unfolding part_of count_in
part_capitals p =
    rw (
      named_capitals (bytes_of "INTERVAL=") p,
      named_capitals (bytes_of "COUNT=") p,
      named_capitals (bytes_of "UNTIL=") p,
      named_capitals (bytes_of "BYDAY=") p,
      named_capitals (bytes_of "BYMONTHDAY=") p,
      form_capitals (bytes_of "WKST=MO") p,
      drop-capitals 9 p,
      drop-capitals 6 p,
      drop-capitals 11 p,
      plus_capitals (drop 11 p),
      number_capitals 999 (drop 9 p),
      number_capitals 4294967295 (drop 6 p),
      until_capitals (drop 6 p),
      days_capitals (drop 6 p),
      number_capitals 31 (without_plus (drop 11 p)),
    )

begun_capitals : (p : List ℕ) → begun (capitals p) ≡ begun p
unfolding begun
begun_capitals p =
    rw (form_capitals (bytes_of "FREQ=DAILY") p, form_capitals (bytes_of "FREQ=WEEKLY") p, form_capitals (bytes_of "FREQ=MONTHLY") p)

-- all parts
parts_capitals : (ps : List (List ℕ)) (d : Draft) → read_parts d (map capitals ps) ≡ read_parts d ps
parts_capitals [] d = refl
parts_capitals (p ∷ ps) d =
    rw (part_capitals p) (same_then (option_and_then (put d) (part_of p)) (λ e. read_parts e (map capitals ps)) (λ e. read_parts e ps) (parts_capitals ps))

read_capitals : (ps : List (List ℕ)) → read_pieces (map capitals ps) ≡ read_pieces ps
read_capitals [] = refl
read_capitals (p ∷ ps) =
    rw (begun_capitals p) (same_then (begun p) (λ d. read_parts d (map capitals ps)) (λ d. read_parts d ps) (parts_capitals ps))

in_capitals_read : (s : List ℕ) → read_rule (capitals s) ≡ read_rule s
unfolding read_rule
in_capitals_read s = ap rule_answer (ap read_pieces (pieces_capitals 59 s (omega arith)) ∙ read_capitals (pieces 59 s))

-- "letters in either case": texts that differ only in that are read the same
pub case_changes_nothing : (s t : List ℕ) → map capital_of s ≡ map capital_of t → read_rule s ≡ read_rule t
case_changes_nothing s t h = sym (in_capitals_read s) ∙ ap read_rule h ∙ in_capitals_read t
