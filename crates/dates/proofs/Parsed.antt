-- Laws of what a reader gives: how bounds pass through the combinators.
use mathlib.Core.Path.{◌≡◌, refl}
use mathlib.Core.Bool.{Bool, true, false}
use Rattle.std.specs.Prelude.{Some, None, Ok, Err}
use Prim.Native.Nat.{ℕ, ◌≤◌, ◌<◌}
use native.Mathlib.Omega.{arith}
use Rattle.lexer.specs.declared.reading.Reading.{Reading}
use Rattle.numbers.specs.Answers.{NumberFound, Read}
use Rattle.dates.specs.Parsed.{Parsed, is, nothing, overflow, pick, or_else, if_let, and_then, parsed_number, Took}
use Rattle.dates.specs.Dates.{is_year_in, year_of}

module _ {A : Type 0} where
  -- the lexemes taken, once the answer is known
  pub found : {p : Parsed A} {v : A} {t k n : ℕ} → p ≡ is v t → Took p k n → (k ≤ t) × (t ≤ n)
  found e h = (rw e at h).bounds

  -- what a promise says, from the law of its definition
  pub promised : {r p : Parsed A} {k n : ℕ} → r ≡ p → Took p k n → (r ≡ p) × Took r k n
  promised e h = (e, rw e h)

  -- nothing has all bounds
  pub nothing_took : {k n : ℕ} → Took {A = A} nothing k n
  nothing_took = record { bounds = tt }

  -- a test, with what it says on either side
  pub pick_took : (b : Bool) (x y : Parsed A) {k n : ℕ} → (b ≡ true → Took x k n) → (b ≡ false → Took y k n) → Took (pick b x y) k n
  pick_took true x y f g = f refl
  pick_took false x y f g = g refl

  -- one lexeme, if a test finds it
  pub one-took : (b : Bool) (v : A) (y : Parsed A) {n : ℕ} → (b ≡ true → 0 < n) → Took y 1 n → Took (pick b (is v 1) y) 1 n
  one-took b v y f g = pick_took b (is v 1) y (λ e. record { bounds = let h = f e in omega arith }) (λ e. g)

  -- two alternatives
  pub or-took : (a b : Parsed A) {k n : ℕ} → Took a k n → Took b k n → Took (or_else a b) k n
  or-took (is v t) b g h = g
  or-took nothing b g h = h
  or-took overflow b g h = g

  -- what follows a reader that has bounds of its own
  pub then_took : {B : Type 0} (p : Parsed A) (f : A → ℕ → Parsed B) {i m k n : ℕ}
      → Took p i m → ((v : A) (t : ℕ) → i ≤ t → t ≤ m → Took (f v t) k n) → Took (and_then p f) k n
  then_took (is v t) f g h = let b = g.bounds in h v t (omega arith) (omega arith)
  then_took nothing f g h = record { bounds = tt }
  then_took overflow f g h = record { bounds = tt }

  -- what follows it, and what stands where it finds nothing
  pub if_let_took : {B : Type 0} (p : Parsed A) (f : A → ℕ → Parsed B) (b : Parsed B) {i m k n : ℕ}
      → Took p i m → ((v : A) (t : ℕ) → i ≤ t → t ≤ m → Took (f v t) k n) → Took b k n → Took (if_let p f b) k n
  if_let_took (is v t) f b g h z = let e = g.bounds in h v t (omega arith) (omega arith)
  if_let_took nothing f b g h z = z
  if_let_took overflow f b g h z = record { bounds = tt }

-- the bounds of a number reader
pub number_took : (w : NumberFound) {k n : ℕ} → Read w k n → Took (parsed_number w) k n
number_took (Ok (Some a)) h = record { bounds = let b = h.bounds in omega arith }
number_took (Ok None) h = nothing_took
number_took (Err o) h = record { bounds = tt }

pick_keeps : (P : Parsed ℕ → Type 0) (b : Bool) {x y : Parsed ℕ} → P x → P y → P (pick b x y)
pick_keeps P true g h = g
pick_keeps P false g h = h

-- what holds of a number and of nothing holds of a year
pub year_keeps : (P : Parsed ℕ → Type 0) → P nothing → (reading : Reading) (w : NumberFound) → P (parsed_number w) → P (year_of reading w)
year_keeps P z reading (Ok (Some a)) h = pick_keeps P (is_year_in reading a) h z
year_keeps P z reading (Ok None) h = h
year_keeps P z reading (Err o) h = h
