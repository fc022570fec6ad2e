-- The promises of `repeats`. Assumes nothing.
use Rattle.settled.proofs.Settled.{Same, Settled, same}
use Rattle.repeats.proofs.courses.has_weekday.Reads as has_weekday'
use Rattle.repeats.proofs.courses.begin.Reads as begin'
use Rattle.repeats.proofs.courses.time_of_day.Reads as time_of_day'
use Rattle.repeats.proofs.days.rounded_up.Reads as rounded_up'
use Rattle.repeats.proofs.days.month_from.Reads as month_from'
use Rattle.repeats.proofs.days.first_from.Reads as first_from'
use Rattle.repeats.proofs.listing.list.Reads as list'

pub has_weekday : Settled has_weekday'.Post
has_weekday = same has_weekday'.Post _ _ (λ κs a z e p. p)

pub begin : Settled begin'.Post
begin = same begin'.Post _ _ (λ κs a z e p. p)

pub time_of_day : Settled time_of_day'.Post
time_of_day = same time_of_day'.Post _ _ (λ κs a z e p. p)

pub rounded_up : Settled rounded_up'.Post
rounded_up = same rounded_up'.Post _ _ (λ κs a z e p. p.0)

pub month_from : Settled month_from'.Post
month_from = same month_from'.Post _ _ (λ κs a z e p. p.0)

pub first_from : Settled first_from'.Post
first_from = same first_from'.Post _ _ (λ κs a z e p. p)

pub list : Settled list'.Post × Same list'.Post (λ κs z e. e.1.1.0.now)
list = (same list'.Post _ _ (λ κs a z e p. p.0), same list'.Post _ _ (λ κs a z e p. p.1))
