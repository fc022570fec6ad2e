-- `Time::to_chrono`, on the date of t.
use Rattle.std.specs.Prelude.{ℕ, ◌+◌, ◌%◌, Bool, true, cond, ◌&&◌}
use Rattle.calendar.specs.Moments.{Outcome, moment, refused, in_range, is_time, with_time}
use Rattle.calendar.specs.declared.moments.Moment.{Moment}
use Rattle.dates.specs.declared.time.Time.{Time}
use Rattle.dates.specs.declared.time.Time.TheVariants.{HourMin, HourMinAM, HourMinPM, Empty}
use Rattle.refusals.specs.declared.Reason.TheVariants as refusal

-- "A stated time has second and millisecond 0"; 11: "no such time of day"
abbrev pub stated_time : Bool → ℕ → ℕ → Moment → Outcome
stated_time valid h m t = cond (valid && is_time h m 0 0) (moment (with_time h m 0 0 t)) (refused refusal.NoTime)

-- `Time::to_chrono`, on the date of t: "Without a time the answer has now's time of day"; "with am or pm hours 1 to 12, where 12 am is 0
-- and 12 pm is 12"
abbrev pub time_at : Time → Moment → Moment → Outcome
time_at Empty n t = moment (with_time n.hour n.minute n.second n.millisecond t)
time_at (HourMin h m) n t = stated_time true h m t
time_at (HourMinAM h m) n t = stated_time (in_range h 1 12) (h % 12) m t
time_at (HourMinPM h m) n t = stated_time (in_range h 1 12) (h % 12 + 12) m t
