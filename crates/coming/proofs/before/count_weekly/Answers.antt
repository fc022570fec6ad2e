use Rattle.repeats.specs.Occurrences.{weekdays_of}
use Rattle.coming.proofs.Weekly.{Ranked, ranked}
use Rattle.coming.proofs.before.count_weekly.Goals as goal
use Rattle.coming.proofs.before.count_weekly.Goals.{After-weekdays_below}

-- what the course's weeks have before the start's day
known : (c : After-weekdays_below) →
    let a = c.args in Ranked (weekdays_of a.c.days a.c.start) a.c.interval a.c.start a.b
known c = ranked _ _ _ c.args.b c.requires.0 c.requires.2

pub overflow_sub-result : goal.overflow_sub-result
overflow_sub-result c =
    rw (c.weekly_rank.ensures, c.weekdays_below.ensures.0) (known (goal.at.overflow_sub-result c).After-weekdays_below).room

pub returns : goal.returns
returns c = rw (c.weekly_rank.ensures, c.weekdays_below.ensures.0) (known (goal.at.returns c).After-weekdays_below).is
