use mathlib.Core.Path.{refl, sym, ap, ◌∙◌}
use native.Mathlib.Omega.{arith}
use Rattle.std.specs.Prelude.{Ok}
use Rattle.std.proofs.lemmas.Grind.{common_steps}
use Rattle.dates.specs.Durations.{duration_turn}
use Rattle.dates.proofs.Durations.{duration_is, sub_daily_kept, taken_looking, taken_promised}
use Rattle.dates.proofs.Durations.{part_there, part_none, part_over, and-behind, no_and}
use Rattle.dates.proofs.duration.read_duration.Goals as goal

pub returns-in_err-part-clause-value : goal.returns-in_err-part-clause-value
unfolding duration_turn
returns-in_err-part-clause-value c = rw (duration_is c.args.reading c.args.l.now) (grind (arith, common_steps))

pub returns-in_default-clause-value : goal.returns-in_default-clause-value
unfolding duration_turn
returns-in_default-clause-value c = rw (duration_is c.args.reading c.args.l.now) (grind (arith, common_steps))

pub loop-reading-init : goal.loop-reading-init
loop-reading-init c =
    part_there sub_daily_kept _ (taken_looking _ c.args.l.now) refl c.read_concrete.ensures.result_value
    (c.in_ok-part.was ∙ ap (λ part. Ok part) c.in-Some.is) (omega arith) (sym c.is_sub_daily-sub_daily.ensures)

pub loop-reading-preserved : goal.loop-reading-preserved
loop-reading-preserved c =
    let looking = and-behind sub_daily_kept _ c.loop-reading.invariant c.is_at.ensures.value c.loop-reading-test.true in
    part_there sub_daily_kept _ looking c.rest.ensures.result_value c.read_concrete-in-loop-reading.ensures.result_value
    (c.in_ok-next.was ∙ ap (λ part. Ok part) c.in-Some-2.is) (omega arith) (rw c.is_sub_daily-sub_daily-in-loop-reading.ensures refl)

pub returns-in_err-next-clause-value : goal.returns-in_err-next-clause-value
returns-in_err-next-clause-value c =
    let looking = and-behind sub_daily_kept _ c.loop-reading.invariant c.is_at.ensures.value c.loop-reading-test.true in
    let over = part_over sub_daily_kept _ looking c.rest.ensures.result_value c.read_concrete-in-loop-reading.ensures.result_value c.in_err-next.was in
    grind (arith, common_steps, over)

pub returns-in_default-2 : goal.returns-in_default-2
returns-in_default-2 c =
    let looking = and-behind sub_daily_kept _ c.loop-reading.invariant c.is_at.ensures.value c.loop-reading-test.true in
    let ends = part_none sub_daily_kept _ looking c.rest.ensures.result_value c.read_concrete-in-loop-reading.ensures.result_value
    (c.in_ok-next.was ∙ ap (λ part. Ok part) c.in_default-2.is) in
    let all = taken_promised _ _ (sym ends) in
    record { value = all.0; taken_counted = all.1 }

pub returns : goal.returns
returns c =
    let all = taken_promised _ _ (no_and sub_daily_kept _ c.loop-reading.invariant c.is_at.ensures.value c.loop-reading-test.false) in
    record { value = all.0; taken_counted = all.1 }
