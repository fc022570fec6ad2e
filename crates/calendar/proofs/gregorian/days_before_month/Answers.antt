use native.Mathlib.Omega.{arith}
use borrow.Author.Tests.{le-leb, lt-leb}
use Rattle.calendar.proofs.Months.{line, month}
use Rattle.calendar.proofs.gregorian.days_before_month.Goals as goal

pub returns-then-m-le2 : goal.returns-then-m-le2
unfolding line
returns-then-m-le2 c =
    let begins = (month c.args.leap c.args.m c.requires.0 c.requires.1).begins in
    (simp (le-leb _ _ c.if-m-le2.true) at begins, omega arith)

pub returns-else-m-le2 : goal.returns-else-m-le2
unfolding line
returns-else-m-le2 c =
    let begins = (month c.args.leap c.args.m c.requires.0 c.requires.1).begins in
    (rw c.leap_day.ensures.0 (simp (lt-leb _ _ c.if-m-le2.false) at begins), omega arith)
