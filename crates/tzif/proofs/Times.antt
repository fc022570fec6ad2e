-- Numbers with a sign are found again, and the bounds of transition times, in numbers.
use Prim.Native.Nat.{ℕ, ◌+◌, ◌≤◌, ◌<◌}
use native.Mathlib.Omega.{arith}
use mathlib.Core.Path.{◌≡◌}
use mathlib.Core.Bool.{true}
use mathlib.Core.Logic.{◌⊎◌}
use Rattle.tzif.specs.Zones.{year_one}
use Rattle.std.proofs.lemmas.Bool.Decides.{nat_tests}
use Rattle.tzif.specs.File.{turned, is_time}

-- a number of 64 bits is found again: an instant by its second since 1970, and the second by the instant
pub turned_back : (u : ℕ) → u < 18446744073709551616 → turned (turned u) ≡ u
turned_back u h = grind (arith, nat_tests)

module _ (t : ℕ) where
  -- a time that passes is clear of the years 0 and 1, and below the year 9999
  pub record Passes : Type 0 where
    pub clear : t + 31622400 < year_one ⊎ year_one + 31536000 ≤ t
    pub high : t < year_one + 315506361600

  pub passes : is_time t ≡ true → Passes
  unfolding is_time
  passes e = record { clear = grind (arith, nat_tests); high = grind (arith, nat_tests) }
