-- What a reader gives: `Some((value, taken))`, `None`, or refusal 6, "a sum or product in a number passes 4,294,967,295", which stops
-- the reading at once.
use Rattle.std.specs.Prelude.{ℕ, ◌≤◌, Bool, true, false, Option, Some, None, Result, Ok, Err}
use Rattle.numbers.specs.declared.Overflow.{Overflow}
use Rattle.numbers.specs.Answers.{NumberFound}

-- found, nothing or overflow, which `read_codes` of phrase gives the number 6
pub data Parsed (A : Type 0) : Type 0 where
  is : A → ℕ → Parsed A
  nothing : Parsed A
  overflow : Parsed A

-- `if`
abbrev pub pick : {A : Type 0} → Bool → Parsed A → Parsed A → Parsed A
pick true a b = a
pick false a b = b

-- an alternative that may be given up, and the next one
abbrev pub or_else : {A : Type 0} → Parsed A → Parsed A → Parsed A
or_else (is v t) b = is v t
or_else nothing b = b
or_else overflow b = overflow

-- `if let Some((v, t)) = a { return k(v, t) }`, and b where a finds nothing
abbrev pub if_let : {A B : Type 0} → Parsed A → (A → ℕ → Parsed B) → Parsed B → Parsed B
if_let (is v t) k b = k v t
if_let nothing k b = b
if_let overflow k b = overflow

-- `let (v, t) = a?`
abbrev pub and_then : {A B : Type 0} → Parsed A → (A → ℕ → Parsed B) → Parsed B
and_then (is v t) k = k v t
and_then nothing k = nothing
and_then overflow k = overflow

-- a number reader's answer
abbrev pub parsed_number : NumberFound → Parsed ℕ
parsed_number (Ok (Some a)) = is a.value a.taken
parsed_number (Ok None) = nothing
parsed_number (Err e) = overflow

-- the code's answer: a value and the lexemes taken
abbrev pub parsed : {A : Type 0} → Result (Option (A × ℕ)) Overflow → Parsed A
parsed (Ok (Some (v, t))) = is v t
parsed (Ok None) = nothing
parsed (Err e) = overflow

-- the code's answer where there is always a value
abbrev pub parsed_found : {A : Type 0} → Result (A × ℕ) Overflow → Parsed A
parsed_found (Ok (v, t)) = is v t
parsed_found (Err e) = overflow

-- the code's answer for one lexeme
abbrev pub parsed_one : {A : Type 0} → Option A → Parsed A
parsed_one (Some v) = is v 1
parsed_one None = nothing

abbrev Bounds : {A : Type 0} → Parsed A → ℕ → ℕ → Type 0
Bounds (is v t) k n = (k ≤ t) × (t ≤ n)
Bounds nothing k n = Unit
Bounds overflow k n = Unit

-- at least k and at most n lexemes are taken
pub record Took {A : Type 0} (p : Parsed A) (k n : ℕ) : Type 0 where
  pub bounds : Bounds p k n
