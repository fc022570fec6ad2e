-- Durations as steps in a world: `Duration::after`, `Duration::before`, `after_date` and `before_date`. A date is carried as the moment of
-- that date at now's time of day, since steps of whole days, months and years do not touch it.
use Rattle.std.specs.Prelude.{ℕ, ◌*◌, Bool}
use Rattle.calendar.specs.Moments.{Reach, and_then, Outcome, months_step, years_step}
use Rattle.calendar.specs.declared.moments.Moment.{Moment}
use Rattle.dates.specs.Durations.{Duration, part, concat}
use Rattle.dates.specs.declared.duration.Part.{Part}
use Rattle.dates.specs.declared.duration.Part.TheVariants.{Article, Specific}
use Rattle.dates.specs.declared.units.Unit.{Unit}
use Rattle.dates.specs.declared.units.Unit.TheVariants.{Day, Week, Hour, Minute, Month, Year}
use Rattle.evaluation.specs.Worlds.{World, offset}

module _ {S : Type 0} (w : World S) where
  -- "Days, weeks, hours, minutes are fixed lengths."; "date, month and year steps act on the civil time"
  abbrev pub unit_in : Bool → ℕ → Unit → S → Reach S
  unit_in back k Day x = w.fixed back (1440 * k) x
  unit_in back k Week x = w.fixed back (10080 * k) x
  unit_in back k Hour x = w.fixed back (60 * k) x
  unit_in back k Minute x = w.fixed back k x
  unit_in back k Month x = w.settle (months_step back k (w.civil x))
  unit_in back k Year x = w.settle (years_step back k (w.civil x))

  -- `Duration::num`: an article is one
  abbrev pub part_in : Bool → Part → S → Reach S
  part_in back (Article u) x = unit_in back 1 u x
  part_in back (Specific u k) x = unit_in back k u x

  -- "The parts of a joined duration act first to last." "Each step's own result is tested."
  abbrev pub duration_in : Bool → Duration → S → Reach S
  duration_in back (part p) x = part_in back p x
  duration_in back (concat p d) x = and_then (part_in back p x) (duration_in back d)

-- at a fixed offset, which is on civil date and time alone
abbrev pub unit_step : Bool → ℕ → Unit → Moment → Outcome
unit_step = unit_in offset

abbrev pub part_step : Bool → Part → Moment → Outcome
part_step = part_in offset

abbrev pub duration_step : Bool → Duration → Moment → Outcome
duration_step = duration_in offset
