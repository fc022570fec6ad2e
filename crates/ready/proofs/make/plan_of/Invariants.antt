use Prim.Native.Nat.{◌+◌}
use mathlib.Core.Path.{◌≡◌}
use Rattle.ready.specs.Bounds.{Within}
use Rattle.ready.proofs.Links.{plan_at, size_at}
use Rattle.ready.proofs.make.plan_of.Given as goal

abbrev pub invariant-loop-i : goal.invariant-loop-i
invariant-loop-i l = record { same_way : l.p ≡ plan_at l.r l.i; inside : Within l.p (3 + size_at l.r l.i) }
