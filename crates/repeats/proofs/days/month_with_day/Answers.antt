use native.Mathlib.Omega.{arith}
use mathlib.Core.Path.{◌≡◌, sym, ◌∙◌}
use mathlib.Core.Bool.{Bool}
use Prim.Native.Nat.{ℕ, ◌+◌, ◌*◌}
use Rattle.repeats.specs.Firsts.{has_day}
use Rattle.repeats.proofs.Held.{seek_at, seek_on, seek_end}
use Rattle.repeats.proofs.days.month_with_day.Goals as goal

-- the month at hand is that of its turn
at_turn : (d m i t k : ℕ) {b : Bool} → has_day d (m + i * t + i * k) ≡ b → has_day d (m + i * (t + k)) ≡ b
at_turn d m i t k e = let same : m + i * (t + k) ≡ m + i * t + i * k = omega arith in rw same e

pub returns-then-has_day : goal.returns-then-has_day
returns-then-has_day c =
    let here = at_turn _ _ _ _ _ (sym c.has_day.ensures ∙ c.if-has_day.true) in
    rw (c.loop-k.invariant ∙ seek_at _ _ _ here (omega arith)) (omega arith)

pub loop-k-preserved : goal.loop-k-preserved
loop-k-preserved c =
    c.loop-k.invariant ∙ seek_on _ _ _ _ _ (at_turn _ _ _ _ _ (sym c.has_day.ensures ∙ c.if-has_day.false)) (omega arith) (omega arith)

pub returns : goal.returns
returns c =
    let all : c.loop-k.k ≡ 16 = omega arith in
    rw (c.loop-k.invariant ∙ seek_end _ _ _ (omega arith), all) (omega arith)
