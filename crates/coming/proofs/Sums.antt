-- What the code adds up: a term more, nothing where no turn is left, and whether a month has a day.
use mathlib.Core.Path.{◌≡◌, refl, ◌∙◌}
use mathlib.Core.Bool.{Bool, true, false, cond}
use mathlib.Core.Logic.{⊎_elim}
use lib.Dec.{leb}
use Prim.Native.Nat.{ℕ, zero, suc, ◌+◌, ◌-◌, ◌*◌, ◌/◌, ◌%◌, ◌≤◌, ◌<◌, min}
use native.Mathlib.Nat.{eq-or-lt_of_le}
use native.Mathlib.Numerals.{add-one}
use native.Mathlib.Omega.{arith}
use borrow.Author.Tests.{le-leb}
use Rattle.calendar.specs.Gregorian.{leap_year, month_length}
use Rattle.calendar.specs.Moments.{is_day_of_month}
use Rattle.repeats.specs.Firsts.{up}
use Rattle.repeats.specs.Held.{one}
use Rattle.repeats.proofs.Division.{up_is}
use Rattle.coming.specs.Counts.{sum, leaps, turns_with, months_with}

-- whether a month has a day, by the kind of its year
day_test : (y m d : ℕ) (l : Bool) → leap_year y ≡ l → 1 ≤ m → m ≤ 12 → 1 ≤ d → is_day_of_month y m d ≡ leb d (month_length l m)
day_test y m d l e p q r = rw (e, le-leb 1 m p, le-leb m 12 q, le-leb 1 d r)

-- as the code asks, in a common year and in a leap year
pub common_test : (n d : ℕ) → 1 ≤ d → is_day_of_month 1 (n % 12 + 1) d ≡ leb d (month_length false (n % 12 + 1))
common_test n d h = day_test 1 (n % 12 + 1) d false (unfold leap_year in refl) (omega arith) (omega arith) h

pub rare_test : (n d : ℕ) → 1 ≤ d → is_day_of_month 4 (n % 12 + 1) d ≡ leb d (month_length true (n % 12 + 1))
rare_test n d h = day_test 4 (n % 12 + 1) d true (unfold leap_year in refl) (omega arith) (omega arith) h

-- 29 February is a day of the leap years
pub leap_test : (y : ℕ) → is_day_of_month y 2 29 ≡ leap_year y
leap_test y = day_test y 2 29 (leap_year y) refl (omega arith) (omega arith) (omega arith) ∙ go (leap_year y)
  where
    go : (l : Bool) → leb 29 (month_length l 2) ≡ l
    go true = unfold month_length in refl
    go false = unfold month_length in refl

-- one term more
sum_step : (f : ℕ → ℕ) (n : ℕ) → sum f (suc n) ≡ sum f n + f n
unfolding sum
sum_step f n = refl

sum-zero : (f : ℕ → ℕ) → sum f 0 ≡ 0
unfolding sum
sum-zero f = refl

-- terms that are nothing from k on can be left out
sum-stop : (f : ℕ → ℕ) (k n : ℕ) → k ≤ n → ((r : ℕ) → k ≤ r → r < n → f r ≡ 0) → sum f n ≡ sum f k
sum-stop f k zero h z = let e : k ≡ 0 = omega arith in rw e
sum-stop f k (suc n) h z = ⊎_elim
    (λ (e : k ≡ suc n). rw e)
    (λ (l : k < suc n). let a = z n (omega arith) (omega arith) in let b = sum-stop f k n (omega arith) (λ r p q. z r p (omega arith)) in rw (sum_step f n) (omega arith))
    (eq-or-lt_of_le h)

-- no turn is left for a remainder at or past their number
up_none : (p u v : ℕ) → 1 ≤ p → u ≤ v → up p (u - v) ≡ 0
up_none p u v g h = up_is p (u - v) 0 (omega arith) (omega arith)

-- the leap years of a progression, of the first v remainders by 400
unfoldable pub leaps_below : ℕ → ℕ → ℕ → ℕ → ℕ
leaps_below y i u v = sum (λ v. one (leap_year (y + i * v)) * up 400 (u - v)) v

pub leaps_none : (y i u : ℕ) → leaps_below y i u 0 ≡ 0
unfolding leaps_below
leaps_none y i u = sum-zero _

pub leaps_more : (y i u v : ℕ) → leaps_below y i u (v + 1) ≡ leaps_below y i u v + one (leap_year (y + i * v)) * up 400 (u - v)
unfolding leaps_below
leaps_more y i u v = rw (add-one v) (sum_step _ v)

-- those are all, where no turn is left
pub leaps_all : (y i u v : ℕ) → v ≡ min u 400 → leaps y i u ≡ leaps_below y i u v
unfolding leaps leaps_below
leaps_all y i u v e = sum-stop _ v 400 (omega arith) (λ r l h. rw (up_none 400 u r (omega arith) (omega arith)) (omega arith))

-- without turns no month has the day
no_turns : (d i n : ℕ) → turns_with d i n 0 ≡ 0
no_turns d i n = rw none (go (leb d (month_length false (n % 12 + 1))) (leb d (month_length true (n % 12 + 1))))
  where
    none : leaps (n / 12 + 1) i 0 ≡ 0
    none = leaps_all (n / 12 + 1) i 0 0 (omega arith) ∙ leaps_none (n / 12 + 1) i 0

    go : (a b : Bool) → ◌≡◌ {A = ℕ} (cond a 0 (cond b 0 0)) 0
    go true b = refl
    go false true = refl
    go false false = refl

-- the months with the day, of the first r remainders by 12
unfoldable pub months_below : ℕ → ℕ → ℕ → ℕ → ℕ → ℕ
months_below d i m t r = sum (λ r. turns_with d i (m + i * r) (up 12 (t - r))) r

pub months_none : (d i m t : ℕ) → months_below d i m t 0 ≡ 0
unfolding months_below
months_none d i m t = sum-zero _

pub months_more : (d i m t r : ℕ) → months_below d i m t (r + 1) ≡ months_below d i m t r + turns_with d i (m + i * r) (up 12 (t - r))
unfolding months_below
months_more d i m t r = rw (add-one r) (sum_step _ r)

pub months_all : (d i m t r : ℕ) → r ≡ min t 12 → months_with d i m t ≡ months_below d i m t r
unfolding months_with months_below
months_all d i m t r e = sum-stop _ r 12 (omega arith) (λ k l h. rw (up_none 12 t k (omega arith) (omega arith)) (no_turns d i (m + i * k)))
