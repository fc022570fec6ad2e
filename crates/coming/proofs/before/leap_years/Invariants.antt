use mathlib.Core.Path.{◌≡◌}
use Prim.Native.Nat.{◌*◌, ◌≤◌}
use Rattle.coming.proofs.Sums.{leaps_below}
use Rattle.coming.proofs.before.leap_years.Given as goal

-- what is added up are the terms before v
abbrev pub invariant-loop-v : goal.invariant-loop-v
invariant-loop-v l = (l.sum ≤ 25 * l.v) × (l.sum ≡ leaps_below l.y l.i l.u l.v)
