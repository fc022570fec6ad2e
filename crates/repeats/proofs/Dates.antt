-- Days and months: their order, and the day of a month.
use mathlib.Core.Path.{◌≡◌}
use mathlib.Core.Bool.{true}
use mathlib.Core.Logic.{◌⊎◌, inl, inr}
use Prim.Native.Nat.{ℕ, ◌+◌, ◌-◌, ◌*◌, ◌/◌, ◌%◌, ◌≤◌, ◌<◌}
use native.Mathlib.Omega.{arith}
use Rattle.calendar.specs.Gregorian.{leap_year, month_length, IsDate, year_of, month_of_day, day_of, days}
use Rattle.calendar.proofs.Dates.{Before, by_year_lem, by_month, by_day, day_date, is_date_lem, in_days, date_day, order_day}
use lib.Dec.{leb}
use borrow.Author.Tests.{leb-true}
use Rattle.repeats.specs.Firsts.{day_in, has_day}
use Rattle.repeats.specs.Occurrences.{month_at}

-- the days of the month of day n
unfoldable pub length_at : ℕ → ℕ
length_at n = month_length (leap_year (year_of n)) (month_of_day n)

-- of two days the earlier one has an earlier month, or the same and an earlier day
pub earlier : (a b : ℕ) → b < days → a < b → (month_at a < month_at b) ⊎ ((month_at a ≡ month_at b) × (day_of a < day_of b))
unfolding month_at
earlier a b h l = go (order_day va vb (rw (day_date a, day_date b) l))
  where
    va : IsDate (year_of a) (month_of_day a) (day_of a)
    va = is_date_lem a (omega arith)

    vb : IsDate (year_of b) (month_of_day b) (day_of b)
    vb = is_date_lem b h

    go : Before (year_of a) (month_of_day a) (day_of a) (year_of b) (month_of_day b) (day_of b) →
        (12 * (year_of a - 1) + (month_of_day a - 1) < 12 * (year_of b - 1) + (month_of_day b - 1)) ⊎
        ((12 * (year_of a - 1) + (month_of_day a - 1) ≡ 12 * (year_of b - 1) + (month_of_day b - 1)) × (day_of a < day_of b))
    go (by_year_lem p) = inl (omega (arith, va, vb))
    go (by_month p q) = inl (omega (arith, va, vb))
    go (by_day p q r) = inr (omega arith, r)

-- the month of a day, taken apart
pub record Apart (n : ℕ) : Type 0 where
  pub year : month_at n / 12 + 1 ≡ year_of n
  pub month : month_at n % 12 + 1 ≡ month_of_day n

pub apart : (n : ℕ) → n < days → Apart n
unfolding month_at
apart n h =
    let v = is_date_lem n h in
    let a = v.month_low in
    let b = v.month_high in
    let c = v.year_low in
    record { year = omega arith; month = omega arith }

-- a month has day d exactly if d is at most its length
pub has_day_lem : (d n : ℕ) → n < days → has_day d (month_at n) ≡ leb d (length_at n)
unfolding has_day length_at
has_day_lem d n h = let a = apart n h in rw (a.year, a.month)

-- the day d of a month of the calendar that has it
pub record DayIn (d k n : ℕ) : Type 0 where
  pub calendar : n < days
  pub month : month_at n ≡ k
  pub day : day_of n ≡ d

-- is a date
pub date_in : (d k : ℕ) → 1 ≤ d → k < 119988 → has_day d k ≡ true → IsDate (k / 12 + 1) (k % 12 + 1) d
unfolding has_day
date_in d k l h e = record {
  year_low = omega arith;
  year_high = omega arith;
  month_low = omega arith;
  month_high = omega arith;
  day_low = l;
  day_high = leb-true _ _ e;
}

pub day_in_lem : (d k : ℕ) → 1 ≤ d → k < 119988 → has_day d k ≡ true → DayIn d k (day_in d k)
unfolding day_in month_at
day_in_lem d k l h e =
    let v = date_in d k l h e in
    let w = date_day v in
    record { calendar = in_days v; month = rw (w.year, w.month) (omega arith); day = w.day }
