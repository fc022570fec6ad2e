-- How long texts are, and a refusal written part by part. Assumes nothing.
use Prim.Native.Nat.{ℕ, ◌+◌, ◌≤◌, ◌<◌}
use native.Mathlib.Omega.{arith}
use mathlib.Core.Path.{◌≡◌, sym, ◌∙◌}
use mathlib.Core.List.{List, [], ◌++◌}
use lib.ListN.{length, length-append}
use lib.Seq.{sets}
use borrow.Author.Tests.{le-leb, lt-leb}
use Rattle.digits.specs.Bytes.{bytes_of}
use Rattle.digits.specs.Digits.{width_of, decimal_of}
use Rattle.digits.proofs.Stores.{sets-append}
use Rattle.digits.proofs.Widths.{digits_length, width_limit}
use Rattle.lexer.specs.Keywords.{words_in}
use Rattle.calendar.specs.declared.moments.Moment.{Moment}
use Rattle.text.specs.Answers.{Answer, given, refused, number_of, First, answer_of}
use Rattle.text.specs.Texts.{refusal_text, text_of, fitting}
use Rattle.text.specs.Output.{answer_line}

-- "refused ", " at " and two numbers
pub refusal_length : (k a : ℕ) → length (refusal_text k a) ≡ 12 + width_of k + width_of a
refusal_length k a =
    let first : length (decimal_of k) ≡ width_of k = digits_length (width_of k) k in
    let second : length (decimal_of a) ≡ width_of a = digits_length (width_of a) a in
    simp length-append (omega arith)

-- no answer is longer
pub text_limit : (x : Answer Moment) → length (text_of x) ≤ 52
unfolding text_of
text_limit (given t) = omega arith
text_limit (refused r) = let number = number_of r.reason in omega (arith, refusal_length number r.place, width_limit number, width_limit r.place)

-- nor its line
pub answer_limit : (n : Moment) (p : List ℕ) → length (answer_line n p) ≤ 53
answer_limit n p = simp length-append (omega (arith, text_limit (answer_of First (words_in First) p n)))

-- a refusal, written part by part
pub refusal_stored :
    (l : List ℕ) (k a n : ℕ) → n ≡ 8 + width_of k →
    sets (sets (sets (sets l 0 (bytes_of "refused ")) 8 (decimal_of k)) n (bytes_of " at ")) (n + 4) (decimal_of a) ≡ sets l 0 (refusal_text k a)
refusal_stored l k a n e =
    let number = bytes_of "refused " ++ decimal_of k in
    let first : length (decimal_of k) ≡ width_of k = digits_length (width_of k) k in
    let two : 0 + length number ≡ n = simp length-append (omega arith) in
    let three : 0 + length (number ++ bytes_of " at ") ≡ n + 4 = simp length-append (omega arith) in
    sym
    (sets-append (number ++ bytes_of " at ") (decimal_of a) l 0
    ∙ rw (three, sets-append number (bytes_of " at ") l 0, two, sets-append (bytes_of "refused ") (decimal_of k) l 0))

-- a text has room or not
module _ (room : ℕ) (s : List ℕ) where
  pub fits : length s ≤ room → fitting room s ≡ s
  fits h = rw (le-leb (length s) room h)

  pub passes : room < length s → fitting room s ≡ []
  passes h = rw (lt-leb (length s) room h)
