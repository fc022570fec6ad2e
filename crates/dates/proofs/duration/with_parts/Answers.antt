use mathlib.Core.Path.{refl, sym, ap, ◌∙◌}
use native.Mathlib.Omega.{arith}
use Rattle.std.specs.Prelude.{Ok}
use Rattle.std.proofs.lemmas.Grind.{common_steps}
use Rattle.dates.proofs.Durations.{row_kept, part_there, part_none, part_over, and-behind, no_and}
use Rattle.dates.proofs.duration.with_parts.Goals as goal

pub returns-in-Ok-None : goal.returns-in-Ok-None
returns-in-Ok-None c =
    sym (part_none (row_kept _) _ c.loop-part.invariant.0 c.rest.ensures.result_value c.read_concrete.ensures.result_value
    (c.in-Ok-None.is ∙ ap (λ part. Ok part) c.in-Ok-None.field-0-is))

pub returns-in-Err : goal.returns-in-Err
returns-in-Err c =
    sym (part_over (row_kept _) _ c.loop-part.invariant.0 c.rest.ensures.result_value c.read_concrete.ensures.result_value c.in-Err.is)

pub loop-part-preserved : goal.loop-part-preserved
loop-part-preserved c =
    let there = part_there (row_kept _) _ c.loop-part.invariant.0 c.rest.ensures.result_value c.read_concrete.ensures.result_value
    (c.in-Ok-Some.is ∙ ap (λ part. Ok part) c.in-Ok-Some.field-0-is) refl (sym c.push-row.ensures) in
    (and-behind (row_kept _) _ there c.is_at.ensures.value c.if-is_at.true, rw c.push-row.ensures (grind (arith, common_steps)))

pub returns-else-is_at : goal.returns-else-is_at
returns-else-is_at c =
    let there = part_there (row_kept _) _ c.loop-part.invariant.0 c.rest.ensures.result_value c.read_concrete.ensures.result_value
    (c.in-Ok-Some.is ∙ ap (λ part. Ok part) c.in-Ok-Some.field-0-is) refl (sym c.push-row.ensures) in
    no_and (row_kept _) _ there c.is_at.ensures.value c.if-is_at.false
