use native.Mathlib.Omega.{arith}
use Rattle.repeats.proofs.Rows.{listed_more, next_day_lem, no_day, no_earlier, past_limit, written_all}
use Rattle.repeats.proofs.listing.put_rows.Goals as goal

pub returns-then-c-from : goal.returns-then-c-from
returns-then-c-from c =
    let all = written_all _ _ _ _ _ _ _ _ c.loop-n.invariant c.min-most.ensures (omega arith) (past_limit c.args.c _ c.if-c-from.true) in
    record { value = all.0; buffer = all.1 }

pub returns-then-c-day : goal.returns-then-c-day
returns-then-c-day c =
    let inv = c.loop-n.invariant in
    let none = no_day _ c.requires _ _ inv.low c.if-c-from.false c.first_from-day.ensures c.if-c-day.true in
    let all = written_all _ _ _ _ _ _ _ _ inv c.min-most.ensures (omega arith) none in
    record { value = all.0; buffer = all.1 }

pub loop-n-preserved : goal.loop-n-preserved
loop-n-preserved c =
    let inv = c.loop-n.invariant in
    let low = c.if-c-from.false in
    let day = c.first_from-day.ensures in
    rw (c.put_row.ensures, c.at_day.ensures)
    (listed_more _ _ _ _ _ _ _ inv
    (no_earlier _ c.requires _ _ inv.low low day) (next_day_lem _ c.requires _ _ inv.low low day c.if-c-day.false))
