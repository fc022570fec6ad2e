use Rattle.calendar.specs.Gregorian.{year_of, day_of_year, month_of_day, day_of}
use Rattle.calendar.proofs.moments.Moment.at_day.Goals as goal

pub returns : goal.returns
unfolding year_of day_of_year month_of_day day_of
returns c = cc
