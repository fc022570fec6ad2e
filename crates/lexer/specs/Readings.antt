-- The readings by the numbers that callers give. Assumes nothing.
use Rattle.std.specs.Prelude.{ℕ, cond, eqb, Result, Ok, Err}
use Rattle.refusals.specs.declared.Reason.TheVariants.{NoReading}
use Rattle.refusals.specs.declared.Reason.{Reason}
use Rattle.lexer.specs.declared.reading.Reading.{Reading}
use Rattle.lexer.specs.declared.reading.Reading.TheVariants.{First, Second}

-- "chosen by the caller as 1 or 2": "15 for any other reading number"
abbrev pub reading_numbered : ℕ → Result Reading Reason
reading_numbered k = cond (eqb k 1) (Ok First) (cond (eqb k 2) (Ok Second) (Err NoReading))
