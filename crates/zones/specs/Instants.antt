-- Instants of a zone: their civil moments, the instant of a civil moment, and fixed lengths between instants.
use Rattle.std.specs.Prelude.{ℕ, ◌+◌, ◌-◌, ◌*◌, ◌≤◌, ◌<◌, ◌≡◌, Bool, true, false, cond, leb, ltb, Result, Ok, Err}
use Rattle.refusals.specs.declared.Reason.{Reason}
use Rattle.refusals.specs.declared.Reason.TheVariants.{Outside, PastLast}
use Rattle.calendar.specs.Moments.{Reach, moment, refused, and_then}
use Rattle.calendar.specs.declared.moments.Moment.{Moment}
use Rattle.tzif.specs.Zones.{Zone}
use Rattle.zones.specs.Civil.{answer_of, civil_of, last_in, resolve, civil_one, in_years, moment_of_second, second_of_moment}
use Rattle.zones.specs.declared.instants.Instant.{Instant}

-- an instant by its two numbers: its second, 2^63 added, and the millisecond
abbrev pub instant_by : ℕ → ℕ → Instant
instant_by s ms = record { second = s; millisecond = ms }

-- the code's answer where a civil answer is settled
abbrev pub settled_of : {R : Type 0} → Result (Result Instant Reason) R → Result (Reach Instant) R
settled_of (Ok x) = Ok (answer_of x)
settled_of (Err k) = Err k

-- a second that was reached, with a millisecond
abbrev pub with_millisecond : ℕ → Reach ℕ → Reach Instant
with_millisecond ms r = and_then r (λ s. moment (instant_by s ms))

module _ (z : Zone) where
  -- a second that a fixed length leads to: "22 .. before 12 at a fixed step on the instant"
  abbrev pub arrive : ℕ → Reach ℕ
  arrive s = cond (ltb s (last_in z)) (cond (in_years (civil_of z s)) (moment s) (refused Outside)) (refused PastLast)

  -- so many minutes from a second, back or on: "Fixed steps after a time or after now act on the instant"
  abbrev pub fixed_from : Bool → ℕ → ℕ → Reach ℕ
  fixed_from true k s = cond (leb (60 * k) s) (arrive (s - 60 * k)) (refused Outside)
  fixed_from false k s = arrive (s + 60 * k)

  -- the same with the millisecond kept
  abbrev pub fixed_step : Bool → ℕ → Instant → Reach Instant
  fixed_step back k x = with_millisecond x.millisecond (fixed_from back k x.second)

  -- the civil time of an instant
  abbrev pub clock_of : Instant → Moment
  clock_of x = moment_of_second (civil_of z x.second) x.millisecond

  -- the instant of a civil time: "A civil time that occurs twice is the earlier .. ; one that doesn't occur is refused."
  abbrev pub instant_at : Moment → Reach Instant
  instant_at t = with_millisecond t.millisecond (resolve z (second_of_moment t))

  -- a civil answer settled: what was refused ahead of it stays as it is, in whatever type
  abbrev pub settled : {R : Type 0} → Result Moment R → Result (Reach Instant) R
  settled (Ok t) = Ok (instant_at t)
  settled (Err k) = Err k

  -- a second that a run may stand at: before the last transition, and civil year 1 or later
  pub record Good (s : ℕ) : Type 0 where
    pub known : s < last_in z
    pub low : civil_one ≤ civil_of z s

  -- with its millisecond
  pub record Shown (x : Instant) : Type 0 where
    pub good : Good x.second
    pub small : x.millisecond < 1000

  -- an instant that is reached is one of these
  pub record Kept (r : Reach Instant) : Type 0 where
    pub kept : (x : Instant) → r ≡ moment x → Shown x
