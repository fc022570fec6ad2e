use mathlib.Core.Path.{◌≡◌}
use Prim.Native.Nat.{◌*◌, ◌≤◌}
use Rattle.coming.proofs.Sums.{months_below}
use Rattle.coming.proofs.before.months_with.Given as goal

-- what is added up are the terms before r
abbrev pub invariant-loop-r : goal.invariant-loop-r
invariant-loop-r l = (l.sum ≤ 10000 * l.r) × (l.sum ≡ months_below l.day l.i l.month l.turns l.r)
