-- The month and the day of the month of the day after.
use mathlib.Core.Path.{◌≡◌, refl}
use mathlib.Core.Bool.{Bool, true, false}
use mathlib.Core.Logic.{⊎_elim}
use Prim.Native.Nat.{ℕ, suc, ◌+◌, ◌<◌}
use native.Mathlib.Nat.{eq-or-lt_of_le}
use native.Mathlib.Omega.{arith}
use Rattle.calendar.specs.Gregorian.{leap_year, month_length, day_number, IsDate, year_of, month_of_day, day_of, days}
use Rattle.calendar.proofs.Dates.{Same, day_date, is_date_lem, date_day}
use Rattle.calendar.proofs.Counting.{next_day_lem, next_month, next_year, last_day}
use Rattle.calendar.proofs.Months.{Month, month}
use Rattle.repeats.specs.Occurrences.{month_at}
use Rattle.repeats.proofs.Dates.{length_at}

-- the date that has day number n is n's date
at_date : (y m d n : ℕ) → IsDate y m d → day_number y m d ≡ n → Same (year_of n) (month_of_day n) (day_of n) y m d
at_date y m d n v e = rw e at (date_day v)

-- December has 31 days
december : (l : Bool) → month_length l 12 ≡ 31
unfolding month_length
december true = refl
december false = refl

-- the day after n falls in the same month, or is the first of the next
pub data Next (n : ℕ) : Type 0 where
  inside : day_of n < length_at n → month_at (suc n) ≡ month_at n → day_of (suc n) ≡ suc (day_of n) → Next n
  begins : day_of n ≡ length_at n → month_at (suc n) ≡ suc (month_at n) → day_of (suc n) ≡ 1 → Next n

pub next : (n : ℕ) → suc n < days → Next n
unfolding month_at length_at
next n h = ⊎_elim last same (eq-or-lt_of_le v.day_high)
  where
    v : IsDate (year_of n) (month_of_day n) (day_of n)
    v = is_date_lem n (omega arith)

    l : Month (leap_year (year_of n)) (month_of_day n)
    l = month _ (month_of_day n) v.month_low v.month_high

    same : day_of n < month_length (leap_year (year_of n)) (month_of_day n) → Next n
    same p =
        let e : day_number (year_of n) (month_of_day n) (day_of n + 1) ≡ suc n = omega (arith, next_day_lem (year_of n) (month_of_day n) (day_of n) v.day_low, day_date n) in
        let w = at_date _ _ _ (suc n) (record {
          year_low = v.year_low;
          year_high = v.year_high;
          month_low = v.month_low;
          month_high = v.month_high;
          day_low = omega arith;
          day_high = omega arith;
        }) e in
        inside p (rw (w.year, w.month)) (rw w.day (omega arith))

    last : day_of n ≡ month_length (leap_year (year_of n)) (month_of_day n) → Next n
    last p = ⊎_elim year_end month_end (eq-or-lt_of_le v.month_high)
      where
        month_end : month_of_day n < 12 → Next n
        month_end q =
            let m = (month (leap_year (year_of n)) (month_of_day n + 1) (omega arith) (omega arith)).least in
            let b = l.least in
            let s = rw (← p) at (next_month (year_of n) (month_of_day n) (omega arith)) in
            let e : day_number (year_of n) (month_of_day n + 1) 1 ≡ suc n = omega (arith, s, day_date n) in
            let w = at_date _ _ _ (suc n) (record {
              year_low = v.year_low;
              year_high = v.year_high;
              month_low = omega arith;
              month_high = omega arith;
              day_low = omega arith;
              day_high = omega arith;
            }) e in
            begins p (rw (w.year, w.month) (omega (arith, v.month_low))) w.day

        year_end : month_of_day n ≡ 12 → Next n
        year_end q =
            let r : day_of n ≡ 31 = rw (q, december) at p in
            let d = rw (q, r) at (day_date n) in
            let y : year_of n < 9999 =
            ⊎_elim (λ (z : year_of n ≡ 9999). let a = rw z at d in absurd (omega (arith, last_day))) (λ z. z) (eq-or-lt_of_le v.year_high) in
            let e : day_number (year_of n + 1) 1 1 ≡ suc n = omega (arith, next_year (year_of n) v.year_low) in
            let m = (month (leap_year (year_of n + 1)) 1 (omega arith) (omega arith)).least in
            let w = at_date _ _ _ (suc n) (record {
              year_low = omega arith;
              year_high = omega arith;
              month_low = omega arith;
              month_high = omega arith;
              day_low = omega arith;
              day_high = omega arith;
            }) e in
            begins p (rw (w.year, w.month, q) (omega (arith, v.year_low))) w.day
