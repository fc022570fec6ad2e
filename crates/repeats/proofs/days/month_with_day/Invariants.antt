use mathlib.Core.Path.{◌≡◌}
use Prim.Native.Nat.{ℕ, ◌+◌, ◌-◌, ◌*◌}
use Rattle.repeats.specs.Held.{seek}
use Rattle.repeats.specs.Firsts.{has_day}
use Rattle.repeats.proofs.days.month_with_day.Given as goal

-- k months of the course were looked at, and the search goes on at the next
abbrev pub invariant-loop-k : goal.invariant-loop-k
invariant-loop-k l =
    let P = λ (t : ℕ). has_day l.c.day (l.c.month + l.c.interval * t) in
    seek P l.turn 16 ≡ seek P (l.turn + l.k) (16 - l.k)
