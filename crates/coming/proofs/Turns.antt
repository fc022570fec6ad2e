-- FREQ=MONTHLY: of a rule's turns those whose month has the day, by remainders.
use mathlib.Core.Path.{◌≡◌, refl, ◌∙◌}
use mathlib.Core.Bool.{Bool, true, false, cond}
use lib.Dec.{leb}
use Prim.Native.Nat.{ℕ, zero, suc, ◌+◌, ◌-◌, ◌*◌, ◌/◌, ◌%◌}
use native.Mathlib.Omega.{arith}
use borrow.Author.Tests.{le-leb, leb-true}
use Rattle.calendar.specs.Gregorian.{leap_year, month_length}
use Rattle.coming.specs.Counts.{count, leaps, turns_with, months_with}
use Rattle.repeats.specs.Firsts.{has_day, up}
use Rattle.repeats.specs.Held.{one}
use Rattle.coming.proofs.Counts.{count_same, count_split, sum_same}
use Rattle.repeats.proofs.Turns.{common, leap_again, years_on}

-- a test that says the same everywhere counts all or none
count_all : (P : ℕ → Bool) (t : Bool) (n : ℕ) → ((k : ℕ) → P k ≡ t) → count P n ≡ one t * n
unfolding count
count_all P t zero f = omega arith
count_all P true (suc n) f = rw (count_all P true n f, f n) (omega arith)
count_all P false (suc n) f = rw (count_all P false n f, f n) (omega arith)

-- the leap years of a progression
pub leaps_count : (y i u : ℕ) → count (λ t. leap_year (y + i * t)) u ≡ leaps y i u
unfolding leaps
leaps_count y i u = count_split (λ t. leap_year (y + i * t)) 400 u (omega arith) ∙ sum_same _ _ 400 (λ v l.
    count_all (λ w. leap_year (y + i * (400 * w + v))) (leap_year (y + i * v)) (up 400 (u - v)) (λ w.
    let e : y + i * (400 * w + v) ≡ y + i * v + 400 * (i * w) = omega arith in rw e (leap_again (y + i * v) (i * w))))

-- the turns of one remainder by 12
slot : (d i n u : ℕ) → count (λ t. leb d (month_length (leap_year (n / 12 + 1 + i * t)) (n % 12 + 1))) u ≡
    turns_with d i n u
slot d i n u = go (leb d (month_length false (n % 12 + 1))) refl (leb d (month_length true (n % 12 + 1))) refl
  where
    all : leb d (month_length false (n % 12 + 1)) ≡ true → (l : Bool) → leb d (month_length l (n % 12 + 1)) ≡ true
    all a l = let b = leb-true d (month_length false (n % 12 + 1)) a in le-leb d _ (omega (arith, common l (n % 12 + 1)))

    leap : leb d (month_length false (n % 12 + 1)) ≡ false → leb d (month_length true (n % 12 + 1)) ≡ true → (l : Bool) →
        leb d (month_length l (n % 12 + 1)) ≡ l
    leap a b true = b
    leap a b false = a

    none : leb d (month_length false (n % 12 + 1)) ≡ false → leb d (month_length true (n % 12 + 1)) ≡ false → (l : Bool) →
        leb d (month_length l (n % 12 + 1)) ≡ false
    none a b true = b
    none a b false = a

    go : (x : Bool) → leb d (month_length false (n % 12 + 1)) ≡ x → (y : Bool) → leb d (month_length true (n % 12 + 1)) ≡ y →
        count (λ t. leb d (month_length (leap_year (n / 12 + 1 + i * t)) (n % 12 + 1))) u ≡ cond x u (cond y (leaps (n / 12 + 1) i u) 0)
    go true a y b = count_all _ true u (λ k. all a (leap_year (n / 12 + 1 + i * k))) ∙ omega arith
    go false a true b = count_same _ _ u (λ k l. leap a b (leap_year (n / 12 + 1 + i * k))) ∙ leaps_count (n / 12 + 1) i u
    go false a false b = count_all _ false u (λ k. none a b (leap_year (n / 12 + 1 + i * k))) ∙ omega arith

-- the months of the rule's first turns that have the day
pub months_with_lem : (d i m t : ℕ) → count (λ t. has_day d (m + i * t)) t ≡ months_with d i m t
unfolding months_with
months_with_lem d i m t = count_split (λ t. has_day d (m + i * t)) 12 t (omega arith) ∙ sum_same _ _ 12 (λ r l.
    count_same (λ u. has_day d (m + i * (12 * u + r))) (λ u. leb d (month_length (leap_year ((m + i * r) / 12 + 1 + i * u)) ((m + i * r) % 12 + 1))) _
    (λ u q. let e : m + i * (12 * u + r) ≡ m + i * r + 12 * (i * u) = omega arith in rw e (years_on d (m + i * r) (i * u))) ∙
    slot d i (m + i * r) (up 12 (t - r)))
