use native.Mathlib.Omega.{arith}
use mathlib.Core.Path.{refl}
use Rattle.ready.proofs.make.length_move.Goals as goal

pub returns-in-Day : goal.returns-in-Day
returns-in-Day c = rw c.in-Day.is (refl, omega arith)

pub returns-in-Week : goal.returns-in-Week
returns-in-Week c = rw c.in-Week.is (refl, omega arith)

pub returns-in-Hour : goal.returns-in-Hour
returns-in-Hour c = rw c.in-Hour.is (refl, omega arith)

pub returns-in-Minute : goal.returns-in-Minute
returns-in-Minute c = rw c.in-Minute.is (refl, omega arith)

pub returns-in-Month : goal.returns-in-Month
returns-in-Month c = rw c.in-Month.is (refl, omega arith)

pub returns-in-Year : goal.returns-in-Year
returns-in-Year c = rw c.in-Year.is (refl, omega arith)
