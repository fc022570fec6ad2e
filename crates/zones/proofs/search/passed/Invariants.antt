use Prim.Native.Nat.{ℕ, ◌-◌, ◌≤◌, ◌<◌}
use mathlib.Core.List.{List}
use Rattle.tzif.specs.File.{time_at}
use Rattle.tzif.specs.declared.file.Places.{Places}
use Rattle.zones.proofs.search.passed.Given as goal

-- what is cut off at both ends: transitions before `lo` are at or before s, those from `hi` on behind it
pub record Cut (l : List ℕ) (p : Places) (s lo hi : ℕ) : Type 0 where
  pub within : hi ≤ p.count
  pub ends : lo ≤ hi
  pub low : (j : ℕ) → j < lo → time_at l p.times j ≤ s
  pub high : (j : ℕ) → hi ≤ j → j < p.count → s < time_at l p.times j

abbrev pub invariant-loop-lo : goal.invariant-loop-lo
invariant-loop-lo l = Cut l.zone.file.now l.zone.places l.s l.lo l.hi

abbrev pub decreases-loop-lo : goal.decreases-loop-lo
decreases-loop-lo l = l.hi - l.lo
