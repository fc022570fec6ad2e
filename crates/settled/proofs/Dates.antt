-- The promises of `dates`. Assumes nothing.
use Rattle.settled.proofs.Settled.{Settled, same, through}
use Rattle.settled.proofs.Values.{found_one, lexeme_one}
use Rattle.dates.proofs.date.read_date.Reads as read_date'
use Rattle.dates.proofs.duration.is_sub_daily_unit.Reads as is_sub_daily_unit'
use Rattle.dates.proofs.duration.read_duration.Reads as read_duration'
use Rattle.dates.proofs.duration.with_parts.Reads as with_parts'
use Rattle.dates.proofs.time.read_time.Reads as read_time'
use Rattle.dates.proofs.units.read_unit.Reads as read_unit'
use Rattle.dates.proofs.units.read_weekday.Reads as read_weekday'
use Rattle.dates.proofs.units.read_specifier.Reads as read_specifier'

pub read_date : Settled read_date'.Post
read_date = through read_date'.Post _ (λ κs. found_one) (same read_date'.Post _ _ (λ κs a z e p. p.0))

pub is_sub_daily_unit : Settled is_sub_daily_unit'.Post
is_sub_daily_unit = same is_sub_daily_unit'.Post _ _ (λ κs a z e p. p)

pub read_duration : Settled read_duration'.Post
read_duration = same read_duration'.Post _ _ (λ κs a z e p. p.0)

pub with_parts : Settled with_parts'.Post
with_parts = same with_parts'.Post _ _ (λ κs a z e p. p)

pub read_time : Settled read_time'.Post
read_time = through read_time'.Post _ (λ κs. found_one) (same read_time'.Post _ _ (λ κs a z e p. p.0))

pub read_unit : Settled read_unit'.Post
read_unit = through read_unit'.Post _ (λ κs. lexeme_one) (same read_unit'.Post _ _ (λ κs a z e p. p.0))

pub read_weekday : Settled read_weekday'.Post
read_weekday = through read_weekday'.Post _ (λ κs. lexeme_one) (same read_weekday'.Post _ _ (λ κs a z e p. p.0))

pub read_specifier : Settled read_specifier'.Post
read_specifier = through read_specifier'.Post _ (λ κs. lexeme_one) (same read_specifier'.Post _ _ (λ κs a z e p. p.0))
