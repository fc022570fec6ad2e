use Rattle.std.proofs.Common.{rules, arith}
use Rattle.calendar.proofs.Steps.{minutes_in_lem, minutes_out}
use Rattle.calendar.proofs.moments.Moment.minutes_step.Goals as goal

pub returns-in_err-n : goal.returns-in_err-n
returns-in_err-n c = search (rules, minutes_out)

pub returns : goal.returns
returns c =
    let all = minutes_in_lem c.args.back c.args.k c.args.self c.requires c.in_ok-n.n (grind arith) in
    rw c.at_minute.ensures (record { result_value = all.0; valid = all.1 })
