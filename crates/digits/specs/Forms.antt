-- Fixed forms, as `0000-00-00`. Assumes nothing.
use Rattle.std.specs.Prelude.{ℕ, Bool, true, false, ◌&&◌, cond, List, [], ◌∷◌, eqb}
use Prim.Native.Char.{code}
use Rattle.digits.specs.Bytes.{capital_of}
use Rattle.digits.specs.Digits.{is_digit}

-- a byte in its place: any digit for a 0 of the form, a letter in either case, else the form's own byte
abbrev pub in_place : ℕ → ℕ → Bool
in_place f b = cond (eqb f (code "0")) (is_digit b) (eqb (capital_of b) (capital_of f))

-- a text of a form: as many bytes, each in its place
abbrev pub of_form : List ℕ → List ℕ → Bool
of_form [] [] = true
of_form [] (b ∷ bs) = false
of_form (f ∷ fs) [] = false
of_form (f ∷ fs) (b ∷ bs) = in_place f b && of_form fs bs
