use mathlib.Core.Path.{◌≡◌}
use Prim.Native.Nat.{ℕ, ◌<◌}
use native.Mathlib.Omega.{arith}
use Rattle.calendar.specs.Gregorian.{years_before, days, InYear}
use Rattle.calendar.proofs.Years.{not_late, not-early}
use Rattle.calendar.proofs.Dates.{between, the_year, years_below}
use Rattle.calendar.proofs.gregorian.years_before.Goals as goal

-- the year that day n falls in has what is promised of it
told : (n r : ℕ) → n < days → InYear n r → (r ≡ years_before n) × (r < 9999) × InYear n r
told n r h i = (the_year n r i, omega (arith, the_year n r i, years_below n h), i)

pub returns-then-n-days_of_years : goal.returns-then-n-days_of_years
returns-then-n-days_of_years c =
    let n = c.args.n in
    told n _ c.requires (between n _ (not_late n _ (omega arith)) (omega arith))

pub returns-else-n-days_of_years : goal.returns-else-n-days_of_years
returns-else-n-days_of_years c =
    let n = c.args.n in
    let h = c.requires in
    told n _ h (between n _ (omega arith) (not-early n _ h (omega arith)))
