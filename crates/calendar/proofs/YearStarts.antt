-- The table of year starts: one computed test says that it is the formula, and a law says so at each entry.
use mathlib.Core.Path.{◌≡◌, refl}
use mathlib.Core.Bool.{true}
use Prim.Native.Nat.{ℕ, ◌<◌}
use borrow.Author.Tests.{eqb-true}
use lib.Dec.{eqb}
use lib.ListN.{get_or}
use Rattle.digits.proofs.Tabled.{all_below, each_below}
use Rattle.calendar.specs.Gregorian.{days_of_years}
use Rattle.calendar.specs.declared.starts.TheConstants.{STARTS}

-- each number of the table is the formula's
starts_tested : all_below (λ k. eqb (get_or STARTS k 0) (days_of_years k)) 400 ≡ true
unfolding days_of_years
starts_tested = refl

-- so each year of the cycle begins where the table says
pub start_at_lem : (k : ℕ) → k < 400 → get_or STARTS k 0 ≡ days_of_years k
start_at_lem k h = eqb-true _ _ (each_below (λ k. eqb (get_or STARTS k 0) (days_of_years k)) 400 starts_tested k h)
