-- Seconds and moments: each is found again from the other, and a step by minutes is one by as many seconds times sixty.
use Prim.Native.Nat.{ℕ, ◌+◌, ◌-◌, ◌*◌, ◌/◌, ◌%◌, ◌<◌}
use native.Mathlib.Omega.{arith}
use mathlib.Core.Path.{◌≡◌, ap, ◌∙◌}
use mathlib.Core.Bool.{true, false}
use borrow.Author.Tests.{lt-ltb, le-leb}
use Rattle.calendar.specs.Moments.{IsMoment, moment, minute_number, minutes, at_minute, minutes_step, with_time, first_moment}
use Rattle.calendar.specs.Moments.{second_number, seconds, moment_at}
use Rattle.calendar.specs.declared.moments.Moment.{Moment}
use Rattle.calendar.proofs.Valid.{first_moment_lem}
use Rattle.calendar.proofs.Places.{minute_below, at_minute_moment, minute_at, at_own_minute}

-- a second of the calendar is a moment
pub second_moment : (n ms : ℕ) → n < seconds → ms < 1000 → IsMoment (moment_at n ms)
second_moment n ms h k =
    at_minute_moment (n / 60) (with_time 0 0 (n % 60) ms first_moment) (omega arith)
    (record { date = first_moment_lem.date; time = record { hour = omega arith; minute = omega arith; second = omega arith; millisecond = k } })

-- of that second
pub second_at : (n ms : ℕ) → second_number (moment_at n ms) ≡ n
second_at n ms = rw (minute_at (n / 60) (with_time 0 0 (n % 60) ms first_moment)) (omega arith)

-- a moment's second is one of the calendar's
pub second_below : (t : Moment) → IsMoment t → second_number t < seconds
second_below t v = omega (arith, minute_below t v, v.time.second)

-- a number of seconds, taken apart
module _ (m s : ℕ) (h : s < 60) where
  minute_part : (60 * m + s) / 60 ≡ m
  minute_part = omega arith

  second_part : (60 * m + s) % 60 ≡ s
  second_part = omega arith

-- and at the moment's own second it is the moment itself
pub at_own_second : (t : Moment) → IsMoment t → moment_at (second_number t) t.millisecond ≡ t
at_own_second t v =
    let h = v.time.second in
    ap (λ (n : ℕ). at_minute n (with_time 0 0 (second_number t % 60) t.millisecond first_moment)) (minute_part (minute_number t) t.second h)
    ∙ ap (λ (n : ℕ). at_minute (minute_number t) (with_time 0 0 n t.millisecond first_moment)) (second_part (minute_number t) t.second h)
    ∙ at_own_minute t v

-- minutes on, by seconds
pub later_second : (n k ms : ℕ) → n + 60 * k < seconds → minutes_step false k (moment_at n ms) ≡ moment (moment_at (n + 60 * k) ms)
unfolding minutes_step
later_second n k ms h =
    let minute : (n + 60 * k) / 60 ≡ n / 60 + k = omega arith in
    let second : (n + 60 * k) % 60 ≡ n % 60 = omega arith in
    rw (minute_at (n / 60) (with_time 0 0 (n % 60) ms first_moment), lt-ltb (n / 60 + k) minutes (omega arith), minute, second)

-- minutes back
pub earlier_second : (n k ms : ℕ) → minutes_step true k (moment_at (n + 60 * k) ms) ≡ moment (moment_at n ms)
unfolding minutes_step
earlier_second n k ms =
    let minute : (n + 60 * k) / 60 ≡ n / 60 + k = omega arith in
    let second : (n + 60 * k) % 60 ≡ n % 60 = omega arith in
    let less : n / 60 + k - k ≡ n / 60 = omega arith in
    rw (minute_at ((n + 60 * k) / 60) (with_time 0 0 ((n + 60 * k) % 60) ms first_moment), minute, second, le-leb k (n / 60 + k) (omega arith), less)
