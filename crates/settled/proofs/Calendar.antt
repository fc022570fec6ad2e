-- The promises of `calendar`. Assumes nothing.
use Rattle.settled.proofs.Settled.{Same, Settled, same, through}
use Rattle.settled.proofs.Values.{reached_one}
use Rattle.calendar.proofs.moments.MomentFromArrayU32MOMENTNUMBERS.from.Reads as moment_from'
use Rattle.calendar.proofs.moments.ArrayU32MOMENTNUMBERSFromMoment.from.Reads as numbers_from'
use Rattle.calendar.proofs.moments.weekday_of.Reads as weekday_of'
use Rattle.calendar.proofs.moments.valid_day.Reads as valid_day'
use Rattle.calendar.proofs.moments.valid_date.Reads as valid_date'
use Rattle.calendar.proofs.moments.valid_time.Reads as valid_time'
use Rattle.calendar.proofs.moments.Moment.first.Reads as first'
use Rattle.calendar.proofs.moments.Moment.last.Reads as last'
use Rattle.calendar.proofs.moments.Moment.valid.Reads as valid'
use Rattle.calendar.proofs.moments.Moment.with_date.Reads as with_date'
use Rattle.calendar.proofs.moments.Moment.with_time.Reads as with_time'
use Rattle.calendar.proofs.moments.Moment.day_number.Reads as day_number'
use Rattle.calendar.proofs.moments.Moment.at_day.Reads as at_day'
use Rattle.calendar.proofs.moments.Moment.on_day.Reads as on_day'
use Rattle.calendar.proofs.moments.Moment.minutes_step.Reads as minutes_step'
use Rattle.calendar.proofs.moments.Moment.month_number.Reads as month_number'
use Rattle.calendar.proofs.moments.Moment.second_number.Reads as second_number'
use Rattle.calendar.proofs.moments.Moment.at_second.Reads as at_second'
use Rattle.calendar.proofs.moments.Moment.months_step.Reads as months_step'
use Rattle.calendar.proofs.moments.Moment.years_step.Reads as years_step'
use Rattle.calendar.proofs.fixed.put_moment.Reads as put_moment'
use Rattle.calendar.proofs.fixed.moment_in.Reads as moment_in'

pub moment_from : Settled moment_from'.Post
moment_from = same moment_from'.Post _ _ (λ κs a z e p. p)

pub numbers_from : Settled numbers_from'.Post
numbers_from = same numbers_from'.Post _ _ (λ κs a z e p. p)

pub weekday_of : Settled weekday_of'.Post
weekday_of = same weekday_of'.Post _ _ (λ κs a z e p. p)

pub valid_day : Settled valid_day'.Post
valid_day = same valid_day'.Post _ _ (λ κs a z e p. p)

pub valid_date : Settled valid_date'.Post
valid_date = same valid_date'.Post _ _ (λ κs a z e p. p)

pub valid_time : Settled valid_time'.Post
valid_time = same valid_time'.Post _ _ (λ κs a z e p. p)

pub first : Settled first'.Post
first = same first'.Post _ _ (λ κs a z e p. p)

pub last : Settled last'.Post
last = same last'.Post _ _ (λ κs a z e p. p)

pub valid : Settled valid'.Post
valid = same valid'.Post _ _ (λ κs a z e p. p)

pub with_date : Settled with_date'.Post
with_date = same with_date'.Post _ _ (λ κs a z e p. p)

pub with_time : Settled with_time'.Post
with_time = same with_time'.Post _ _ (λ κs a z e p. p)

pub day_number : Settled day_number'.Post
day_number = same day_number'.Post _ _ (λ κs a z e p. p.0)

pub at_day : Settled at_day'.Post
at_day = same at_day'.Post _ _ (λ κs a z e p. p)

pub on_day : Settled on_day'.Post
on_day = through on_day'.Post _ (λ κs. reached_one) (same on_day'.Post _ _ (λ κs a z e p. p))

pub minutes_step : Settled minutes_step'.Post
minutes_step = through minutes_step'.Post _ (λ κs. reached_one) (same minutes_step'.Post _ _ (λ κs a z e p. p.0))

pub month_number : Settled month_number'.Post
month_number = same month_number'.Post _ _ (λ κs a z e p. p.0)

pub second_number : Settled second_number'.Post
second_number = same second_number'.Post _ _ (λ κs a z e p. p.0)

pub at_second : Settled at_second'.Post
at_second = same at_second'.Post _ _ (λ κs a z e p. p)

pub months_step : Settled months_step'.Post
months_step = through months_step'.Post _ (λ κs. reached_one) (same months_step'.Post _ _ (λ κs a z e p. p.0))

pub years_step : Settled years_step'.Post
years_step = through years_step'.Post _ (λ κs. reached_one) (same years_step'.Post _ _ (λ κs a z e p. p.0))

pub put_moment : Same put_moment'.Post (λ κs z e. e.0.now)
put_moment = same put_moment'.Post _ _ (λ κs a z e p. p)

pub moment_in : Settled moment_in'.Post
moment_in = same moment_in'.Post _ _ (λ κs a z e p. p)
