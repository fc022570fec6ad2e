-- How many digits a run had is set aside, in the lexemes and in an answer: `num_plain` says that no more of an answer depends on it.
use Rattle.std.specs.Prelude.{ℕ, ◌+◌, cond, Some, None, Ok, Err, List, map, leb}
use Rattle.lexer.specs.Lexemes.{NUM, value_of}
use Rattle.numbers.specs.Answers.{NumberFound, number}

-- a lexeme, a literal as if its run had one digit
unfoldable pub plain : ℕ → ℕ
plain x = cond (leb NUM x) (NUM + value_of x) x

-- the same of all lexemes
abbrev pub plain_of : List ℕ → List ℕ
plain_of l = map plain l

-- an answer without the digits
abbrev pub unwritten : NumberFound → NumberFound
unwritten (Ok (Some a)) = number a.value a.taken
unwritten (Ok None) = Ok None
unwritten (Err e) = Err e
