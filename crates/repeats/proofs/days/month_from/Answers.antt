use native.Mathlib.Omega.{arith}
use Rattle.std.proofs.lemmas.Grind.{common_steps}
use Rattle.calendar.proofs.Valid.{first_moment_lem}
use Rattle.calendar.proofs.Places.{at_day_moment}
use Rattle.repeats.specs.Occurrences.{month_at}
use Rattle.repeats.specs.Firsts.{month_from}
use Rattle.repeats.proofs.days.month_from.Goals as goal

pub month_number-requires : goal.month_number-requires
month_number-requires c = rw (c.at_day-t.ensures, c.first.ensures) (at_day_moment _ _ c.requires first_moment_lem)

pub returns : goal.returns
unfolding month_from month_at
returns c = (grind (arith, common_steps), grind (arith, common_steps))
