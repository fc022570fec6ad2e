-- The rows of worked cases.
use Rattle.std.specs.Prelude.{List, ℕ, ◌+◌, ◌*◌}
use Rattle.lexer.specs.Lexemes as lexeme
use Rattle.dates.specs.Parsed.{Parsed}

-- the lexemes, and what is read of them
pub record Row (A : Type 0) : Type 0 where
  pub lexemes : List ℕ
  pub reading : Parsed A

abbrev pub row : {A : Type 0} → List ℕ → Parsed A → Row A
row l r = record { lexemes = l; reading = r }

-- the literal n, written with k digits
abbrev pub Written : ℕ → ℕ → ℕ
Written k n = lexeme.NUM * k + n

-- the literal n, where nobody looks at its digits
abbrev pub Num : ℕ → ℕ
Num n = Written 1 n
