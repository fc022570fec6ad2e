use native.Mathlib.Omega.{arith}
use Prim.Native.Nat.{◌+◌, ◌%◌}
use borrow.Author.Tests.{le-leb}
use Rattle.repeats.specs.Firsts.{has_day}
use Rattle.repeats.proofs.days.has_day.Goals as goal

pub returns : goal.returns
unfolding has_day
returns c =
    let month = c.args.n % 12 + 1 in
    rw (c.valid_day.ensures, le-leb 1 month (omega arith), le-leb month 12 (omega arith), le-leb _ _ c.requires)
