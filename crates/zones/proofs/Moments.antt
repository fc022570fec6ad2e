-- Civil seconds and moments: each is found again from the other.
use Prim.Native.Nat.{ℕ, ◌+◌, ◌-◌, ◌<◌}
use native.Mathlib.Omega.{arith}
use mathlib.Core.Path.{◌≡◌, ap, ◌∙◌}
use mathlib.Core.Bool.{true}
use Rattle.std.proofs.lemmas.Bool.Decides.{nat_tests}
use Rattle.calendar.specs.Moments.{IsMoment, second_number, seconds, moment_at}
use Rattle.calendar.specs.declared.moments.Moment.{Moment}
use Rattle.calendar.proofs.Seconds.{second_moment, second_at, second_below, at_own_second}
use Rattle.zones.specs.Civil.{civil_one, in_years, moment_of_second, second_of_moment}

less : (b n : ℕ) → b + n - b ≡ n
less b n = omega arith

module _ (c ms : ℕ) (e : in_years c ≡ true) where
  pub second_within : (c - civil_one < seconds) × (civil_one + (c - civil_one) ≡ c)
  second_within = (grind (arith, nat_tests), grind (arith, nat_tests))

  -- its moment is one of the calendar
  pub civil_moment : ms < 1000 → IsMoment (moment_of_second c ms)
  civil_moment h = second_moment (c - civil_one) ms second_within.0 h

  -- of that second
  pub second_again : second_of_moment (moment_of_second c ms) ≡ c
  second_again = ap (λ (n : ℕ). civil_one + n) (second_at (c - civil_one) ms) ∙ second_within.1

module _ (t : Moment) (v : IsMoment t) where
  -- a moment's civil second is in years 1 to 9999
  pub second_in_years : in_years (second_of_moment t) ≡ true
  second_in_years = let below = second_below t v in grind (arith, nat_tests)

  -- and has that moment
  pub moment_again : moment_of_second (second_of_moment t) t.millisecond ≡ t
  moment_again = ap (λ (n : ℕ). moment_at n t.millisecond) (less civil_one (second_number t)) ∙ at_own_second t v
