use Prim.Native.Nat.{◌≤◌}
use native.Mathlib.Omega.{arith}
use Rattle.calendar.proofs.Dates.{is_date_lem}
use Rattle.repeats.proofs.Monthly.{from_start}
use Rattle.coming.specs.Counts.{count_monthly}
use Rattle.coming.proofs.Division.{up_below}
use Rattle.coming.proofs.before.count_monthly.Goals as goal
use Rattle.coming.proofs.before.count_monthly.Goals.{After-month_from}

-- the start's month is none behind b's
month_after : (c : After-month_from) → c.args.c.month ≤ c.month_from.result
month_after c =
    let a = c.args in
    omega (arith, from_start a.c.day a.c.start a.b c.requires.5 c.requires.4, c.month_from.ensures.0, c.requires.2)

pub overflow_sub-month_from : goal.overflow_sub-month_from
overflow_sub-month_from c = omega (arith, month_after (goal.at.overflow_sub-month_from c).After-month_from)

pub months_with-requires : goal.months_with-requires
months_with-requires c =
    let month = c.month_from.ensures.1 in
    let day = (is_date_lem c.args.c.start (omega (arith, c.requires.4, c.requires.5))).day_low in
    let turns = up_below c.requires.0 c.rounded_up-turns.ensures.0 in
    (omega (arith, c.requires.3), c.requires.1, omega (arith, month_after (goal.at.months_with-requires c).After-month_from), omega (arith, turns, month))

pub returns : goal.returns
unfolding count_monthly
returns c = rw (← c.requires.2, ← c.month_from.ensures.0, ← c.rounded_up-turns.ensures.0) c.months_with.ensures
