use native.Mathlib.Omega.{arith}
use mathlib.Core.Path.{◌≡◌}
use Prim.Native.Nat.{◌+◌, ◌*◌, ◌<◌, ◌≤◌}
use Rattle.calendar.specs.Gregorian.{days}
use Rattle.calendar.proofs.Dates.{is_date_lem}
use Rattle.repeats.specs.Occurrences.{month_at}
use Rattle.repeats.proofs.Monthly.{turn_from, from_start, first_monthly_is}
use Rattle.repeats.proofs.Sixteen.{monthly_has}
use Rattle.repeats.proofs.Rules.{past}
use Rattle.repeats.proofs.days.first_monthly.Goals as goal
use Rattle.repeats.proofs.days.first_monthly.Goals.{After-month_from, After-month_with_day-n}

-- the month that was found is that of the closed form's turn
the-month : (c : After-month_with_day-n) →
    let args = c.args in
    c.month_with_day-n.result ≡ month_at args.c.start + args.c.interval * turn_from args.c.day args.c.interval args.c.start args.b
unfolding turn_from
the-month c =
    rw (
      c.month_with_day-n.ensures,
      c.rounded_up-turn.ensures.0,
      c.month_from.ensures.0,
      c.requires.2,
    )

-- the start's month is none behind b's
month_after : (c : After-month_from) → c.args.c.month ≤ c.month_from.result
month_after c =
    omega (arith, from_start c.args.c.day c.args.c.start c.args.b c.requires.5 c.requires.4, c.month_from.ensures.0, c.requires.2)

pub overflow_sub-month_from : goal.overflow_sub-month_from
overflow_sub-month_from c = omega (arith, month_after (goal.at.overflow_sub-month_from c).After-month_from)

pub month_with_day-n-requires : goal.month_with_day-n-requires
month_with_day-n-requires c =
    let day = (is_date_lem c.args.c.start (omega (arith, c.requires.4, c.requires.5))).day_low in
    (omega (arith, c.requires.3), c.requires.1, omega (arith, c.requires.1, month_after (goal.at.month_with_day-n-requires c).After-month_from, c.rounded_up-turn.ensures.1, c.month_from.ensures.1))

pub day_in-requires : goal.day_in-requires
day_in-requires c =
    let inside : c.args.c.start < days = omega (arith, c.requires.4, c.requires.5) in
    let day = (is_date_lem c.args.c.start inside).day_low in
    (omega (arith, c.requires.3), c.if-n-lt-MONTHS.true, rw (the-month (goal.at.day_in-requires c).After-month_with_day-n) (monthly_has _ _ _ c.args.b inside c.requires.3))

pub returns-then-n-lt-MONTHS : goal.returns-then-n-lt-MONTHS
returns-then-n-lt-MONTHS c =
    let args = c.args in
    let month = the-month (goal.at.returns-then-n-lt-MONTHS c).After-month_with_day-n in
    let first = first_monthly_is args.c.day args.c.interval args.c.start args.b in
    rw (first, ← month, ← c.day_in.ensures.0) (omega (arith, c.day_in.ensures.1))

pub returns-else-n-lt-MONTHS : goal.returns-else-n-lt-MONTHS
returns-else-n-lt-MONTHS c =
    let args = c.args in
    let month = the-month (goal.at.returns-else-n-lt-MONTHS c).After-month_with_day-n in
    let first = first_monthly_is args.c.day args.c.interval args.c.start args.b in
    rw (first, ← month) (omega (arith, past args.c.day c.month_with_day-n.result c.if-n-lt-MONTHS.false))
