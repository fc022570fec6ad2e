-- The promises of `zones`. Assumes nothing.
use denote.RattleType.{RattleType}
use denote.Param.Laws.{Laws}
use Rattle.settled.proofs.Settled.{Settled, same, through}
use Rattle.settled.proofs.Values.{reach_one, settled_one}
use Rattle.zones.proofs.civil.in_years.Reads as in_years'
use Rattle.zones.proofs.civil.moment_of_second.Reads as moment_of_second'
use Rattle.zones.proofs.civil.second_of_moment.Reads as second_of_moment'
use Rattle.zones.proofs.search.shift_at.Reads as shift_at'
use Rattle.zones.proofs.search.civil_of.Reads as civil_of'
use Rattle.zones.proofs.search.resolve.Reads as resolve'
use Rattle.zones.proofs.instants.fixed_step.Reads as fixed_step'
use Rattle.zones.proofs.instants.clock_of.Reads as clock_of'
use Rattle.zones.proofs.instants.settle.Reads as settle'

pub in_years : Settled in_years'.Post
in_years = same in_years'.Post _ _ (λ κs a z e p. p)

pub moment_of_second : Settled moment_of_second'.Post
moment_of_second = same moment_of_second'.Post _ _ (λ κs a z e p. p)

pub second_of_moment : Settled second_of_moment'.Post
second_of_moment = same second_of_moment'.Post _ _ (λ κs a z e p. p.0)

pub shift_at : Settled shift_at'.Post
shift_at = same shift_at'.Post _ _ (λ κs a z e p. p.0)

pub civil_of : Settled civil_of'.Post
civil_of = same civil_of'.Post _ _ (λ κs a z e p. p)

pub resolve : Settled resolve'.Post
resolve = through resolve'.Post _ (λ κs. reach_one) (same resolve'.Post _ _ (λ κs a z e p. p))

pub fixed_step : Settled fixed_step'.Post
fixed_step = through fixed_step'.Post _ (λ κs. reach_one) (same fixed_step'.Post _ _ (λ κs a z e p. p.0))

pub clock_of : Settled clock_of'.Post
clock_of = same clock_of'.Post _ _ (λ κs a z e p. p.0)

pub settle : (T : RattleType) (L : Laws T) → Settled (settle'.Post T L)
settle = λ T L. through (settle'.Post T L) _ (λ κs. settled_one) (same (settle'.Post T L) _ _ (λ κs a z e p. p.0))
