use Rattle.std.proofs.Common.{rules, arith}
use Rattle.calendar.proofs.Steps.{months_in, months_out}
use Rattle.calendar.proofs.moments.Moment.months_step.Goals as goal

pub returns-in_err-n : goal.returns-in_err-n
returns-in_err-n c = search (rules, months_out)

pub returns : goal.returns
returns c =
    let all = months_in c.args.back c.args.k c.args.self c.requires c.in_ok-n.n (grind arith) in
    rw c.in_month.ensures (record { result_value = all.0; valid = all.1 })
