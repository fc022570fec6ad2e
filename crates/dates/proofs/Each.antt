-- What holds of every value that a reader gives, through the combinators.
use mathlib.Core.Path.{◌≡◌, refl}
use mathlib.Core.Bool.{Bool, true, false}
use Prim.Native.Nat.{ℕ}
use Rattle.dates.specs.Parsed.{Parsed, is, nothing, overflow, pick, or_else, if_let, and_then}

abbrev Says : {A : Type 0} → (A → ℕ → Type 0) → Parsed A → Type 0
Says P (is v t) = P v t
Says P nothing = Unit
Says P overflow = Unit

-- what holds of a value that was read and its count, if one was read
pub record Each {A : Type 0} (P : A → ℕ → Type 0) (w : Parsed A) : Type 0 where
  pub bounds : Says P w

-- the same of a property of the value alone
abbrev pub Gives : {A : Type 0} → (A → Type 0) → Parsed A → Type 0
Gives P w = Each (λ v t. P v) w

-- what follows a reading, and what stands where nothing is read; what holds may depend on the reading
pub let_each : {A B : Type 0} (P : Parsed B → A → ℕ → Type 0) (w : Parsed B) (f : B → ℕ → Parsed A) (b : Parsed A)
    → ((v : B) (t : ℕ) → w ≡ is v t → Each (P (is v t)) (f v t)) → Each (P nothing) b → Each (P w) (if_let w f b)
let_each P (is v t) f b g h = g v t refl
let_each P nothing f b g h = h
let_each P overflow f b g h = record { bounds = tt }

module _ {A : Type 0} {P : A → ℕ → Type 0} where
  -- of nothing everything holds
  pub nothing_gives : Each P nothing
  nothing_gives = record { bounds = tt }

  -- of a value
  pub is_gives : {v : A} {t : ℕ} → P v t → Each P (is v t)
  is_gives h = record { bounds = h }

  -- a test, with what it says on either side
  pub pick_each : (b : Bool) {x y : Parsed A} → (b ≡ true → Each P x) → (b ≡ false → Each P y) → Each P (pick b x y)
  pick_each true f g = f refl
  pick_each false f g = g refl

  -- a test, whatever it says
  pub pick_gives : (b : Bool) {x y : Parsed A} → Each P x → Each P y → Each P (pick b x y)
  pick_gives b g h = pick_each b (λ e. g) (λ e. h)

  -- two alternatives
  pub or-gives : (x : Parsed A) {y : Parsed A} → Each P x → Each P y → Each P (or_else x y)
  or-gives (is v t) g h = g
  or-gives nothing g h = h
  or-gives overflow g h = g

  -- what follows a reading, which is known, and what stands where nothing is read
  pub if_let_each : {B : Type 0} (w : Parsed B) (f : B → ℕ → Parsed A) (b : Parsed A)
      → ((v : B) (t : ℕ) → w ≡ is v t → Each P (f v t)) → Each P b → Each P (if_let w f b)
  if_let_each w f b g h = let_each (λ w. P) w f b g h

  -- what follows a reading
  pub then_each : {B : Type 0} (w : Parsed B) (f : B → ℕ → Parsed A)
      → ((v : B) (t : ℕ) → w ≡ is v t → Each P (f v t)) → Each P (and_then w f)
  then_each (is v t) f g = g v t refl
  then_each nothing f g = record { bounds = tt }
  then_each overflow f g = record { bounds = tt }

  module _ {B : Type 0} {Q : B → ℕ → Type 0} (w : Parsed B) {f : B → ℕ → Parsed A} where
    -- both by what holds of the reading
    pub if_let_gives : {b : Parsed A} → Each Q w → ((v : B) (t : ℕ) → Q v t → Each P (f v t)) → Each P b → Each P (if_let w f b)
    if_let_gives h g z = if_let_each w _ _ (λ v t e. g v t (rw e at h).bounds) z

    pub then_gives : Each Q w → ((v : B) (t : ℕ) → Q v t → Each P (f v t)) → Each P (and_then w f)
    then_gives h g = then_each w _ (λ v t e. g v t (rw e at h).bounds)
