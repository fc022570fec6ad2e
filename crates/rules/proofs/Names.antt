-- A part that begins with a name has room for it. Assumes nothing.
use Prim.Native.Nat.{ℕ, ◌≤◌, ◌<◌}
use native.Mathlib.Omega.{arith}
use mathlib.Core.Path.{◌≡◌, refl}
use mathlib.Core.Bool.{Bool, true, false}
use mathlib.Core.List.{List}
use lib.ListN.{length, take, length-take}
use Rattle.digits.proofs.Forms.{form_length}
use Rattle.rules.specs.Parts.{named}

pub named_length : (n p : List ℕ) → named n p ≡ true → length n ≤ length p
unfolding named
named_length n p h = omega (arith, form_length n (take (length n) p) h, length-take (length n) p)

-- and a shorter one has no such name
pub short_named : (n p : List ℕ) → length p < length n → named n p ≡ false
short_named n p less = go (named n p) (named_length n p)
  where
    go : (b : Bool) → (b ≡ true → length n ≤ length p) → b ≡ false
    go true long = absurd (omega (arith, long refl))
    go false long = refl
