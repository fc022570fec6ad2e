-- What a number reader answers, and how answers are joined: the Rust's `Option<(u32, usize)>`, and an overflow, refusal 6, "a sum or
-- product in a number passes 4,294,967,295", which stops the reading.
use Rattle.std.specs.Prelude.{ℕ, ◌≤◌, Bool, true, false, Option, Some, None, Result, Ok, Err, leb}
use Rattle.numbers.specs.declared.Number.{Number}
use Rattle.numbers.specs.declared.Overflow.{Overflow}

-- the largest u32
abbrev pub MAX : ℕ
MAX = 4294967295

-- the largest usize
abbrev pub USIZE : ℕ
USIZE = 18446744073709551615

-- what stops the reading
abbrev pub overflow : Overflow
overflow = record {}

-- a number, or nothing, or an overflow
abbrev pub NumberFound : Type 0
NumberFound = Result (Option Number) Overflow

-- `Some((v, t))`: the value v, of t lexemes, written with a run of d digits and no other lexeme but an ending; d is 0 for any other number
abbrev pub written : ℕ → ℕ → ℕ → NumberFound
written v d t = Ok (Some (record { value = v; digits = d; taken = t }))

-- the same of a number that was not written so
abbrev pub number : ℕ → ℕ → NumberFound
number v t = written v 0 t

-- `if b { x } else { y }`
abbrev pub pick : Bool → NumberFound → NumberFound → NumberFound
pick true x y = x
pick false x y = y

-- one alternative, and the next where it finds nothing; an overflow stops the reading, even in an alternative that would have been
-- given up
abbrev pub or_else : NumberFound → NumberFound → NumberFound
or_else (Ok (Some a)) b = Ok (Some a)
or_else (Ok None) b = b
or_else (Err e) b = Err e

-- `if let Some((v, t)) = w { .. }`
abbrev pub and_then : NumberFound → (Number → NumberFound) → NumberFound
and_then (Ok (Some a)) k = k a
and_then (Ok None) k = Ok None
and_then (Err e) k = Err e

-- `w.unwrap_or((0, 0))`
abbrev pub or_zero : NumberFound → NumberFound
or_zero (Ok (Some a)) = Ok (Some a)
or_zero (Ok None) = number 0 0
or_zero (Err e) = Err e

-- a sum or product that passes the largest u32 is an overflow
unfoldable pub fits_of : ℕ → ℕ → NumberFound
fits_of v t = pick (leb v MAX) (number v t) (Err overflow)

-- the lexemes that an answer takes
abbrev pub taken_of : NumberFound → ℕ
taken_of (Ok (Some a)) = a.taken
taken_of (Ok None) = 0
taken_of (Err e) = 0

-- what `Bounded` says, by cases
abbrev Bounds : Type 0 → NumberFound → ℕ → ℕ → ℕ → Type 0
Bounds o (Ok (Some a)) k hi n = (a.value ≤ hi) × (k ≤ a.taken) × (a.taken ≤ n)
Bounds o (Ok None) k hi n = Unit
Bounds o (Err e) k hi n = o

-- a value of at most hi, of at least k and at most n lexemes; or nothing; or an overflow, where that can be
pub record Bounded (overflow : Type 0) (w : NumberFound) (k hi n : ℕ) : Type 0 where
  pub bounds : Bounds overflow w k hi n

-- the same, of a reader that never overflows
abbrev pub Taken : NumberFound → ℕ → ℕ → ℕ → Type 0
Taken w k hi n = Bounded ⊥ w k hi n

-- the same, of a reader of any u32, which may overflow
abbrev pub Read : NumberFound → ℕ → ℕ → Type 0
Read w k n = Bounded Unit w k MAX n
