-- A part's number: decimal digits, and "Numbers may have leading zeros". Assumes nothing.
use Rattle.std.specs.Prelude.{ℕ, Bool, true, ◌&&◌, cond, List, [], ◌∷◌, eqb, ltb, leb, Option, Some, None}
use Prim.Native.Char.{code}
use Rattle.digits.specs.Digits.{is_digit, value_from}

-- every byte is a digit
abbrev pub all_digits : List ℕ → Bool
all_digits [] = true
all_digits (b ∷ s) = is_digit b && all_digits s

-- the number that a text of digits says, however long; 0, which no part takes, for any other text and for none
abbrev pub number_in : List ℕ → ℕ
number_in s = cond (all_digits s) (value_from 0 s) 0

-- the same, if it is from 1 to m
unfoldable pub number_to : ℕ → List ℕ → Option ℕ
number_to m s = cond (ltb 0 (number_in s) && leb (number_in s) m) (Some (number_in s)) None

-- "monthdaynum = [plus / minus] ordmoday", of which "one positive" is taken: what is behind the plus, if there is one
abbrev pub without_plus : List ℕ → List ℕ
without_plus [] = []
without_plus (b ∷ s) = cond (eqb b (code "+")) s (b ∷ s)
