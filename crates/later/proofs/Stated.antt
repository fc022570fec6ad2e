-- Stated dates and times of day.
use Prim.Native.Nat.{ℕ, ◌+◌, ◌%◌, ◌≤◌}
use mathlib.Core.Bool.{Bool, true, ◌&&◌}
use Rattle.calendar.specs.Moments.{in_range, is_date, is_time, first_moment, with_time}
use Rattle.calendar.specs.declared.moments.Moment.{Moment}
use Rattle.calendar.proofs.Valid.{test_date}
use Rattle.calendar.proofs.DateOrder.{same_date}
use Rattle.dates.specs.declared.time.Time.{Time}
use Rattle.dates.specs.declared.time.Time.TheVariants.{HourMin, HourMinAM, HourMinPM, Empty}
use Rattle.evaluation.specs.Dates.{stated_date}
use Rattle.evaluation.specs.Times.{stated_time, time_at}
use Rattle.later.specs.Nows.{SameTime}
use Rattle.later.proofs.InOrder.{InOrder, on_dates, at_times, own_time}
use Rattle.later.proofs.Outcomes.{Kept, both, tested}

module _ {t u : Moment} (a : InOrder t u) where
  -- one month and day, in years in order
  pub date_kept : (y z m d : ℕ) → y ≤ z → Kept (stated_date y m d t) (stated_date z m d u)
  date_kept y z m d h =
      tested (in_range y 1 9999) (in_range z 1 9999) _ _ _
      (λ _ _.
      tested (is_date y m d) (is_date z m d) _ _ _
      (λ e f. both (on_dates _ _ _ _ _ _ a.time (same_date (test_date y m d e) (test_date z m d f) h))))

  -- one hour and minute
  clock_kept : (valid : Bool) (h m : ℕ) → Kept (stated_time valid h m t) (stated_time valid h m u)
  clock_kept valid h m =
      tested (valid && is_time h m 0 0) (valid && is_time h m 0 0) _ _ _ (λ _ _. both (at_times (own_time (with_time h m 0 0 first_moment)) a))

  -- a time of day, or the nows' own
  pub time_kept : {n k : Moment} → SameTime n k → (x : Time) → Kept (time_at x n t) (time_at x k u)
  time_kept s Empty = both (at_times s a)
  time_kept s (HourMin h m) = clock_kept true h m
  time_kept s (HourMinAM h m) = clock_kept (in_range h 1 12) (h % 12) m
  time_kept s (HourMinPM h m) = clock_kept (in_range h 1 12) (h % 12 + 12) m
