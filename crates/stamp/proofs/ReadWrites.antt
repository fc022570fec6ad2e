-- What is read can be written, and is the same text up to the letters' case, "+00:00" and a fraction's last zeros. Assumes nothing.
use Prim.Native.Nat.{ℕ, ◌+◌, ◌*◌, ◌/◌, ◌%◌, ◌≤◌, ◌<◌}
use Prim.Native.Char.{code}
use native.Mathlib.Omega.{arith}
use mathlib.Core.Path.{◌≡◌, refl, sym, ap, ◌∙◌}
use mathlib.Core.Bool.{Bool, true, false, and-false}
use mathlib.Core.List.{List, ◌∷◌, ◌++◌, map}
use lib.Dec.{eqb}
use lib.ListN.{length, take, drop, get_or, take-append-drop}
use borrow.Author.Tests.{eqb-true, eqb-false, ne_eqb, le-leb}
use Rattle.refusals.specs.Answers.{given}
use Rattle.digits.specs.Bytes.{bytes_of, capital_of, same}
use Rattle.digits.specs.Digits.{two_at, marked}
use Rattle.digits.specs.Forms.{of_form}
use Rattle.digits.proofs.Again.{TwoAgain}
use Rattle.digits.proofs.Bytes.{same_true}
use Rattle.digits.proofs.Capitals.{capital_before}
use Rattle.digits.proofs.Forms.{form_at, form_length}
use Rattle.digits.proofs.Tabled.{listed}
use Rattle.calendar.specs.Moments.{IsMoment}
use Rattle.calendar.specs.Fixed.{moment_form, moment_text, moment_in}
use Rattle.calendar.proofs.Again.{pair, mark, moment_again, moment_capitals}
use Rattle.calendar.proofs.Valid.{test_time, moment_passes}
use Rattle.stamp.specs.Stamps.{offset_place, fraction_at, millisecond_in, west_of, offset_in, offset_exists, stamp_in, stamp_of}
use Rattle.stamp.specs.Stamps.{fraction_text, offset_text, stamp_text, IsOffset, plain_fraction, plain_offset, plain, written_of}
use Rattle.stamp.specs.declared.Stamp.{Stamp}
use Rattle.stamp.proofs.Grammar.{OffsetForm, zulu_form, east_form, west_form, parts}
use Rattle.stamp.proofs.Offsets.{offset_passes}
use Rattle.stamp.proofs.Fractions.{fraction_plain}
use Rattle.stamp.proofs.Readings.{Exists, Reading, stamp, year_zero, no_stamp, one_of_three}
use Rattle.stamp.proofs.Writings.{text_short}

-- a moment's text in capitals is the moment written
moment_plain : (ms : ℕ) (t u : List ℕ) → of_form (moment_form (code "T")) t ≡ true → moment_text (code "T") (moment_in ms (t ++ u)) ≡ map capital_of t
moment_plain ms t u h =
    let mark : capital_of (get_or t 10 0) ≡ code "T" = eqb-true _ _ (form_at (moment_form (code "T")) t h 10 (omega arith)) in
    let m = moment_in ms (t ++ u) in
    ap (λ (b : ℕ). moment_text b m) (sym mark)
    ∙ sym (moment_capitals (get_or t 10 0) m)
    ∙ ap (map capital_of) (moment_again (code "T") ms t u h)

-- the bytes of an offset of hours and minutes
record Numbers (sign : ℕ) (u : List ℕ) : Type 0 where
  size : length u ≡ 6
  signed : get_or u 0 0 ≡ sign
  hours : TwoAgain (get_or u 1 0) (get_or u 2 0)
  colon : get_or u 3 0 ≡ code ":"
  minutes : TwoAgain (get_or u 4 0) (get_or u 5 0)

numbers : (sign : ℕ) (u : List ℕ) → of_form (sign ∷ bytes_of "00:00") u ≡ true → get_or u 0 0 ≡ sign → Numbers sign u
numbers sign u h e =
    let f : List ℕ = sign ∷ bytes_of "00:00" in
    let fits = form_at f u h in
    record {
      size = form_length f u h;
      signed = e;
      hours = pair u 1 (fits 1 (omega arith)) (fits 2 (omega arith));
      colon = mark u 3 (code ":") (omega arith) (fits 3 (omega arith));
      minutes = pair u 4 (fits 4 (omega arith)) (fits 5 (omega arith));
    }

-- the minutes that they say
abbrev minutes_in : List ℕ → ℕ
minutes_in u = 60 * two_at u 1 + two_at u 4

-- they are the digits of the minutes that they say
numbers_plain :
    {sign : ℕ} {u : List ℕ} → Numbers sign u → sign < 97 → two_at u 4 < 60 →
    marked sign (minutes_in u / 60) ++ marked (code ":") (minutes_in u % 60) ≡ map capital_of u
numbers_plain {sign} {u} n l few =
    let hour : minutes_in u / 60 ≡ two_at u 1 = omega arith in
    let minute : minutes_in u % 60 ≡ two_at u 4 = omega arith in
    rw (hour, minute, n.hours.tens, n.hours.ones, n.minutes.tens, n.minutes.ones, listed u 6 n.size)
    (rw (
      n.signed,
      n.colon,
      capital_before sign l,
      capital_before (get_or u 1 0) (omega (arith, n.hours)),
      capital_before (get_or u 2 0) (omega (arith, n.hours)),
      capital_before (get_or u 4 0) (omega (arith, n.minutes)),
      capital_before (get_or u 5 0) (omega (arith, n.minutes)),
    ))

-- no minutes are spelled by zeros
no_minutes : (u : List ℕ) → Numbers (code "+") u → minutes_in u ≡ 0 → same u (bytes_of "+00:00") ≡ true
no_minutes u n z =
    let a : get_or u 1 0 ≡ 48 = omega (arith, n.hours) in
    let b : get_or u 2 0 ≡ 48 = omega (arith, n.hours) in
    let c : get_or u 4 0 ≡ 48 = omega (arith, n.minutes) in
    let d : get_or u 5 0 ≡ 48 = omega (arith, n.minutes) in
    rw (listed u 6 n.size) (rw (n.signed, a, b, n.colon, c, d))

-- an offset, read and written again
zulu_plain : (u : List ℕ) → of_form (bytes_of "Z") u ≡ true → offset_text (offset_in u) ≡ plain_offset u
zulu_plain u h =
    let letter : capital_of (get_or u 0 0) ≡ code "Z" = eqb-true _ _ (form_at (bytes_of "Z") u h 0 (omega arith)) in
    rw (listed u 1 (form_length (bytes_of "Z") u h), and-false (eqb (get_or u 0 0) (code "+")), letter)

module _ (u : List ℕ) (six : length u ≡ 6) where
  -- its numbers in their places
  offset_at : offset_in u ≡ record { west = west_of (get_or u 0 0); minutes = minutes_in u }
  offset_at = rw six

  -- fewer minutes than an hour has
  few : offset_exists u ≡ true → two_at u 4 < 60
  few exists = (test_time _ _ _ _ (rw six at exists)).minute

west_plain : (u : List ℕ) → Numbers (code "-") u → offset_exists u ≡ true → offset_text (offset_in u) ≡ plain_offset u
west_plain u n exists =
    let other : same u (bytes_of "+00:00") ≡ false = rw (listed u 6 n.size) (rw n.signed) in
    ap offset_text (offset_at u n.size)
    ∙ rw (n.signed, other) (numbers_plain n (omega arith) (few u n.size exists))

east_plain :
    (u : List ℕ) → Numbers (code "+") u → offset_exists u ≡ true → (b : Bool) → same u (bytes_of "+00:00") ≡ b →
    offset_text (offset_in u) ≡ plain_offset u
east_plain u n exists true e = rw (same_true u (bytes_of "+00:00") e)
east_plain u n exists false e =
    let some : eqb (minutes_in u) 0 ≡ false = ne_eqb _ _ (λ none. eqb-false 0 0 (cc (no_minutes u n none)) refl) in
    ap offset_text (offset_at u n.size)
    ∙ rw (n.signed, some, e) (numbers_plain n (omega arith) (few u n.size exists))

offset_plain : {u : List ℕ} → OffsetForm u → offset_exists u ≡ true → offset_text (offset_in u) ≡ plain_offset u
offset_plain (zulu_form u h) exists = zulu_plain u h
offset_plain (east_form u h) exists =
    let plus : get_or u 0 0 ≡ code "+" = mark u 0 (code "+") (omega arith) (form_at (bytes_of "+00:00") u h 0 (omega arith)) in
    east_plain u (numbers (code "+") u h plus) exists (same u (bytes_of "+00:00")) refl
offset_plain (west_form u h) exists =
    let minus : get_or u 0 0 ≡ code "-" = mark u 0 (code "-") (omega arith) (form_at (bytes_of "-00:00") u h 0 (omega arith)) in
    west_plain u (numbers (code "-") u h minus) exists

-- what a reading gives: a moment and an offset that can be written, and their text
pub record Again (s : List ℕ) (st : Stamp) : Type 0 where
  pub moment : IsMoment st.moment
  pub offset : IsOffset st.offset
  pub text : stamp_text st ≡ plain s

-- a text that is read is its stamp's text, but for the case of letters, "+00:00" and the zeros at the end of a fraction
pub read_again : (s : List ℕ) (st : Stamp) → stamp_of s ≡ given st → Again s st
read_again s st h = go (one_of_three s)
  where
    text : Exists s → stamp_text (stamp_in s) ≡ plain s
    text there =
        let part = parts s there.form in
        let f = fraction_at (offset_place s) s in
        let u = drop (offset_place s) s in
        let date = rw (take-append-drop 19 s) at (moment_plain (millisecond_in f) (take 19 s) (drop 19 s) part.moment) in
        ap (λ (a : List ℕ). a ++ fraction_text (millisecond_in f) ++ offset_text (offset_in u)) date
        ∙ ap (λ (b : List ℕ). map capital_of (take 19 s) ++ b ++ offset_text (offset_in u)) (fraction_plain part.fraction)
        ∙ ap (λ (c : List ℕ). map capital_of (take 19 s) ++ plain_fraction f ++ c) (offset_plain part.offset there.offset)

    go : Reading s (stamp_of s) → Again s st
    go (stamp there m o e) =
        let same : stamp_in s ≡ st = cc in
        rw (← same) (record { moment = m; offset = o; text = text there })
    go (year_zero there z e) = absurd cc
    go (no_stamp none e) = absurd cc

-- so what is read is written as that text where there are 29 bytes of room
pub read_writes : (s : List ℕ) (st : Stamp) (room : ℕ) → stamp_of s ≡ given st → 29 ≤ room → written_of st room ≡ given (plain s)
unfolding written_of
read_writes s st room h l =
    let again = read_again s st h in
    let fits : length (stamp_text st) ≤ room = omega (arith, text_short st) in
    rw (moment_passes again.moment, offset_passes again.offset, le-leb (length (stamp_text st)) room fits, again.text)
