use native.Mathlib.Omega.{arith}
use mathlib.Core.Path.{◌≡◌, sym, ◌∙◌}
use Rattle.repeats.proofs.Held.{seek_at, seek_on, seek_end}
use Rattle.repeats.proofs.days.next_weekday.Goals as goal

pub returns-then-has_weekday : goal.returns-then-has_weekday
returns-then-has_weekday c =
    (sym (c.loop-k.invariant ∙ seek_at _ _ _ (sym c.has_weekday.ensures ∙ c.if-has_weekday.true) (omega arith)), omega arith)

pub loop-k-preserved : goal.loop-k-preserved
loop-k-preserved c =
    c.loop-k.invariant ∙ seek_on _ _ _ _ _ (sym c.has_weekday.ensures ∙ c.if-has_weekday.false) (omega arith) (omega arith)

pub returns : goal.returns
returns c =
    let all : c.loop-k.k ≡ 7 = omega arith in
    (sym (c.loop-k.invariant ∙ seek_end _ _ _ (omega arith) ∙ all), omega arith)
