use Rattle.calendar.proofs.Valid.{first_moment_lem}
use Rattle.repeats.specs.Firsts.{day_in}
use Rattle.repeats.proofs.Dates.{date_in}
use Rattle.repeats.proofs.days.day_in.Goals as goal

pub day_number-requires : goal.day_number-requires
day_number-requires c =
    let pre = c.requires in
    rw (c.with_date.ensures, c.first.ensures)
    (record { date = date_in _ _ pre.0 pre.1 pre.2; time = first_moment_lem.time })

pub returns : goal.returns
unfolding day_in
returns c = (rw (c.day_number.ensures.0, c.with_date.ensures), c.day_number.ensures.1)
