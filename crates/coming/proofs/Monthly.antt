-- FREQ=MONTHLY: how many days before another hold, from days to months, and from months to the rule's turns.
use mathlib.Core.Path.{◌≡◌, ◌∙◌}
use mathlib.Core.Bool.{false, ◌&&◌}
use lib.ListN.{length}
use lib.Dec.{eqb}
use Prim.Native.Nat.{ℕ, suc, ◌+◌, ◌-◌, ◌*◌, ◌≤◌, ◌<◌}
use native.Mathlib.Omega.{arith}
use borrow.Author.Tests.{lt-ltb, le-ltb, le-leb, lt-leb, eq-eqb, ne_eqb}
use Rattle.calendar.specs.Gregorian.{day_of, days}
use Rattle.calendar.proofs.Dates.{is_date_lem}
use Rattle.coming.specs.Counts.{count, count_monthly}
use Rattle.repeats.specs.Firsts.{has_day, month_from, up}
use Rattle.repeats.specs.Held.{between, one}
use Rattle.repeats.specs.Occurrences.{divides, holds, month_at, monthly}
use Rattle.coming.proofs.Counts.{count_sparse}
use Rattle.coming.proofs.Dates.{Next, begins, inside, next}
use Rattle.coming.proofs.Lengths.{count_step, count_zero, length-by}
use Rattle.coming.proofs.Turns.{months_with_lem}
use Rattle.repeats.proofs.Dates.{has_day_lem, length_at}
use Rattle.repeats.proofs.Division.{by_order}
use Rattle.repeats.proofs.Monthly.{month_order}

-- from one day to the next no day d is passed, or month n's is, if it has one
data Passed (d n : ℕ) : Type 0 where
  stay : month_from d (suc n) ≡ month_from d n → eqb (day_of n) d ≡ false → Passed d n
  pass : month_from d n ≡ month_at n → month_from d (suc n) ≡ suc (month_at n) → has_day d (month_at n) ≡ eqb (day_of n) d → Passed d n

passed : (d n : ℕ) → 1 ≤ d → suc n < days → Passed d n
unfolding month_from
passed d n l h = go (next n h)
  where
    high : day_of n ≤ length_at n
    high = unfold length_at in (is_date_lem n (omega arith)).day_high

    go : Next n → Passed d n
    go (inside p a b) = by_order (day_of n) d
        (λ (q : day_of n < d). stay (rw (a, b, le-ltb d (suc (day_of n)) q, le-ltb d (day_of n) (omega arith))) (ne_eqb _ _ (λ (e : day_of n ≡ d). omega arith)))
        (λ (q : day_of n ≡ d). pass (rw (le-ltb d (day_of n) (omega arith)) (omega arith)) (rw (a, b, lt-ltb d (suc (day_of n)) (omega arith)) (omega arith))
        (rw (has_day_lem d n (omega arith), le-leb d (length_at n) (omega arith), eq-eqb (day_of n) d q)))
        (λ (q : d < day_of n). stay (rw (a, b, lt-ltb d (suc (day_of n)) (omega arith), lt-ltb d (day_of n) q)) (ne_eqb _ _ (λ (e : day_of n ≡ d). omega arith)))
    go (begins p a b) = by_order (day_of n) d
        (λ (q : day_of n < d). pass (rw (le-ltb d (day_of n) (omega arith)) (omega arith)) (rw (a, b, le-ltb d 1 l) (omega arith))
        (rw (has_day_lem d n (omega arith), lt-leb d (length_at n) (omega arith), ne_eqb (day_of n) d (λ (e : day_of n ≡ d). omega arith))))
        (λ (q : day_of n ≡ d). pass (rw (le-ltb d (day_of n) (omega arith)) (omega arith)) (rw (a, b, le-ltb d 1 l) (omega arith))
        (rw (has_day_lem d n (omega arith), le-leb d (length_at n) (omega arith), eq-eqb (day_of n) d q)))
        (λ (q : d < day_of n). stay (rw (a, b, le-ltb d 1 l, lt-ltb d (day_of n) q) (omega arith)) (ne_eqb _ _ (λ (e : day_of n ≡ d). omega arith)))

-- the months from m on that have day d and count, up to the one that day n has reached
reached : ℕ → ℕ → ℕ → ℕ → ℕ
reached d i m n = count (λ x. has_day d (m + x) && divides i x) (month_from d n - m)

-- one more exactly for a day that holds
reached_step : (d i s n : ℕ) → 1 ≤ d → s ≤ n → suc n < days → reached d i (month_at s) (suc n) ≡ reached d i (month_at s) n + one (holds (monthly d) i s n)
unfolding reached holds
reached_step d i s n l g h = go (passed d n l h)
  where
    go : Passed d n → count (λ x. has_day d (month_at s + x) && divides i x) (month_from d (suc n) - month_at s) ≡
        count (λ x. has_day d (month_at s + x) && divides i x) (month_from d n - month_at s) + one (eqb (day_of n) d && divides i (month_at n - month_at s))
    go (stay a b) = rw (a, b) (omega arith)
    go (pass a b c) =
        let o = month_order s n (omega arith) g in
        let e : suc (month_at n) - month_at s ≡ suc (month_at n - month_at s) = omega arith in
        let f : month_at s + (month_at n - month_at s) ≡ month_at n = omega arith in
        rw (a, b, e, count_step (λ x. has_day d (month_at s + x) && divides i x) (month_at n - month_at s), f, c)

-- nothing is reached at the start
reached_start : (d i s : ℕ) → day_of s ≡ d → reached d i (month_at s) s ≡ 0
unfolding reached month_from
reached_start d i s e =
    let a : month_at s + 0 - month_at s ≡ 0 = omega arith in
    rw (le-ltb d (day_of s) (omega arith), a) (count_zero (λ x. has_day d (month_at s + x) && divides i x))

-- and the rule's turns are its months
reached_turns : (d i m n : ℕ) → 1 ≤ i → reached d i m n ≡ count (λ t. has_day d (m + i * t)) (up i (month_from d n - m))
unfolding reached
reached_turns d i m n h = count_sparse (λ x. has_day d (m + x)) i (month_from d n - m) h

-- the days below b that hold, counted by the rule's turns: of the turns' months those that have the day
pub monthly_turns : (d i s b : ℕ) → 1 ≤ d → 1 ≤ i → day_of s ≡ d → s ≤ b → b < days →
    length (between (holds (monthly d) i s) s b) ≡ count (λ t. has_day d (month_at s + i * t)) (up i (month_from d b - month_at s))
monthly_turns d i s b l h e g t =
    let whole : s + (b - s) ≡ b = omega arith in
    let c = rw whole at (length-by (holds (monthly d) i s) (reached d i (month_at s)) s (b - s) (λ n p q. reached_step d i s n l p (omega arith))) in
    let z = reached_start d i s e in
    let y = reached_turns d i (month_at s) b h in
    omega arith

-- the closed form is the number of days below b that hold
pub monthly_count : (d i s b : ℕ) → 1 ≤ d → 1 ≤ i → day_of s ≡ d → s ≤ b → b < days →
    length (between (holds (monthly d) i s) s b) ≡ count_monthly d i s b
unfolding count_monthly
monthly_count d i s b l h e g t = monthly_turns d i s b l h e g t ∙ months_with_lem d i (month_at s) _
