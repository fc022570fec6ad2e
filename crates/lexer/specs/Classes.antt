-- What a byte is to the lexer. Assumes nothing.
use Rattle.std.specs.Prelude.{ℕ, Bool, true, false, cond, eqb, Option, Some, None, is_some}
use Prim.Native.Char.{code}
use Rattle.digits.specs.Digits.{is_digit}
use Rattle.lexer.specs.Lexemes.{Comma, Colon, Slash, Dash, Dot}
use Rattle.lexer.specs.Words.{lower_of, is_small}
use Rattle.lexer.specs.declared.class.Class.{Class}
pub use Rattle.lexer.specs.declared.class.Class.TheVariants.{Gap, Letter, Digit, Mark, Stray}

-- a to z and A to Z
abbrev pub is_letter : ℕ → Bool
is_letter b = is_small (lower_of b)

-- a letter's small one
unfoldable pub letter_of : ℕ → Option ℕ
letter_of b = cond (is_letter b) (Some (lower_of b)) None

-- "`- / . , :` are lexemes", in the order of the Rust's `match c`
unfoldable pub mark_of : ℕ → Option ℕ
mark_of b =
    cond (eqb b (code ",")) (Some Comma)
    (cond (eqb b (code ":")) (Some Colon)
    (cond (eqb b (code "/")) (Some Slash)
    (cond (eqb b (code "-")) (Some Dash)
    (cond (eqb b (code ".")) (Some Dot)
    None))))

-- "space and tab separate"
unfoldable pub class_of : ℕ → Class
class_of b =
    cond (eqb b (code " ")) Gap
    (cond (eqb b (code "\t")) Gap
    (cond (is_letter b) Letter
    (cond (is_digit b) Digit
    (cond (is_some (mark_of b)) Mark
    Stray))))

-- whether two classes are the same
abbrev pub same_class : Class → Class → Bool
same_class Gap Gap = true
same_class Letter Letter = true
same_class Digit Digit = true
same_class Mark Mark = true
same_class Stray Stray = true
same_class _ _ = false
