-- Days counted from another first day.
use mathlib.Core.Path.{◌≡◌, ◌∙◌}
use mathlib.Core.Logic.{⊎_elim}
use Prim.Native.Nat.{ℕ, ◌+◌, ◌-◌, ◌%◌, ◌≤◌, ◌<◌}
use native.Mathlib.Omega.{arith}
use native.Mathlib.Nat.{sub-zero}
use borrow.Author.Tests.{le-leb, lt-leb}
use Rattle.calendar.specs.Moments.{on_day}
use Rattle.calendar.specs.declared.moments.Moment.{Moment}
use Rattle.digits.proofs.Order.{le-or_lt}
use Rattle.evaluation.specs.Weekdays.{days_back}

-- b days before day n is k days before day m
pub same_day : (n b m k : ℕ) (t : Moment) → n + k ≡ m + b → days_back n b t ≡ days_back m k t
unfolding days_back
same_day n b m k t e = ⊎_elim reached before (le-or_lt b n)
  where
    reached : b ≤ n → days_back n b t ≡ days_back m k t
    reached h = let same : n - b ≡ m - k = omega arith in rw (le-leb _ _ h, le-leb k m (omega arith), same)

    before : n < b → days_back n b t ≡ days_back m k t
    before h = rw (lt-leb _ _ h, lt-leb k m (omega arith))

-- b days before day n is day m
pub that_day : (n b m : ℕ) (t : Moment) → n ≡ m + b → days_back n b t ≡ on_day m t
unfolding days_back
that_day n b m t e = same_day n b m 0 t (omega arith) ∙ rw (le-leb 0 m (omega arith), sub-zero)

-- a week on it is the same weekday
a_week : (n : ℕ) → (n + 7) % 7 ≡ n % 7
a_week n = omega arith

-- and so the same way on to another
pub way_on : (n w : ℕ) → n + 7 + (7 + w - (n + 7) % 7) % 7 ≡ n + (7 + w - n % 7) % 7 + 7
way_on n w = rw a_week (omega arith)

-- and back
pub way_back : (n w : ℕ) → n + 7 - (7 + (n + 7) % 7 - w) % 7 + (7 + n % 7 - w) % 7 ≡ n + 7
way_back n w = rw a_week (omega arith)
