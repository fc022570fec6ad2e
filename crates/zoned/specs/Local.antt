-- A list of steps or a reading at an instant of a file's zone, and what the clocks show where it ends.
use Rattle.std.specs.Prelude.{ℕ, ◌-◌, ◌<◌, cond, List, ltb, Result, Ok, Err}
use Rattle.refusals.specs.declared.Reason.{Reason}
use Rattle.refusals.specs.Answers.{Answer, given, refuse, and_then}
use Rattle.calendar.specs.Moments.{Reach, IsMoment}
use Rattle.calendar.specs.declared.moments.Moment.{Moment}
use Rattle.phrase.specs.Tree.{DateTime}
use Rattle.answer.specs.Answer.{placed}
use Rattle.steps.specs.declared.plan.Step.{Step}
use Rattle.tzif.specs.Zones.{Zone}
use Rattle.tzif.specs.File.{zone_of}
use Rattle.zones.specs.Civil.{shift_at}
use Rattle.zones.specs.Instants.{clock_of}
use Rattle.zones.specs.declared.instants.Instant.{Instant}
use Rattle.zoned.specs.InZone.{evaluate_at, run_at}
use Rattle.zoned.specs.declared.local.Local.{Local}

-- what clocks show by the offset in force, which has 90,000 added: west of UTC or not, and by how many seconds
abbrev pub shown_by : ℕ → Moment → ℕ → Local
shown_by o t s = record {
  civil = t;
  second = s;
  west = ltb o 90000;
  offset = cond (ltb o 90000) (90000 - o) (o - 90000);
}

-- what they can show: a moment of the calendar, and an offset below 26 hours
pub record IsLocal (x : Local) : Type 0 where
  pub civil : IsMoment x.civil
  pub offset : x.offset < 93600

-- in a zone at an instant
abbrev pub local_at : Zone → Instant → Local
local_at z x = shown_by (shift_at z.first z.rows x.second) (clock_of z x) x.second

-- the code's answer: "All others hand back an empty part. So do refusals added later, with place 0."
abbrev pub located_of : Result Local Reason → Answer Local
located_of (Ok x) = given x
located_of (Err k) = refuse k 0 0

-- an instant that was reached, as the clocks show it
abbrev pub shown_in : Zone → Reach Instant → Answer Local
shown_in z r = and_then (placed r) (λ x. given (local_at z x))

-- "A phrase can then be run with an instant and a zone": "21 for the file, just before 8"
unfoldable pub run_in_zone : List Step → List ℕ → Instant → Answer Local
run_in_zone ss file n = and_then (zone_of file) (λ z. shown_in z (run_at z ss n))

-- and read there
unfoldable pub evaluate_in_zone : DateTime → List ℕ → Instant → Answer Local
evaluate_in_zone x file n = and_then (zone_of file) (λ z. shown_in z (evaluate_at z x n))
