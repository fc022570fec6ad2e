-- `leap_year` meets its contract: each return has the tests that led there.
use Prim.Native.Nat.{◌%◌}
use native.Mathlib.Omega.{arith}
use borrow.Author.Tests.{eq-eqb, ne_eqb}
use mathlib.Core.Bool.{and-false, and-true, or-false}
use Rattle.calendar.specs.Gregorian.{leap_year}
use Rattle.calendar.proofs.Leap.{sixteenth}
use Rattle.calendar.proofs.gregorian.leap_year.Goals as goal

pub returns-then-y-eq0 : goal.returns-then-y-eq0
unfolding leap_year
returns-then-y-eq0 c = simp (eq-eqb _ _ c.if-y-eq0.true, and-false) (sixteenth _ c.if-y-eq0.true)

pub returns-else-y-eq0 : goal.returns-else-y-eq0
unfolding leap_year
returns-else-y-eq0 c =
    let no-cycle = ne_eqb (c.args.y % 400) 0 (λ e. c.if-y-eq0.false (omega arith)) in
    simp (ne_eqb _ _ c.if-y-eq0.false, no-cycle, and-true, or-false)
