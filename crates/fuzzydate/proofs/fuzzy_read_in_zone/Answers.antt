use native.Mathlib.Omega.{arith}
use mathlib.Core.Path.{refl, ap, ◌∙◌}
use mathlib.Core.List.{List}
use lib.ListN.{replicate, length-take}
use Rattle.steps.specs.declared.plan.Step.{Step}
use Rattle.records.specs.Records.{decode_of}
use Rattle.zoned.specs.Local.{run_in_zone}
use Rattle.fuzzydate.specs.Called.{ready_code, instant_from}
use Rattle.fuzzydate.proofs.Readings.{ready_in_zone, read_back}
use Rattle.fuzzydate.proofs.HandedOn.{HandedOn, handed_on, not-handed}
use borrow.Author.Rules.{rules}
use Rattle.fuzzydate.proofs.fuzzy_read_in_zone.Goals as goal
use Rattle.fuzzydate.proofs.fuzzy_read_in_zone.Goals.{Else-made-ne0}

-- what was made ready is handed on
handed :
    (c : Else-made-ne0) → let a = c.args in
    HandedOn a.reading a.phrase.now c.fuzzy_make_ready-made.result c.fuzzy_make_ready-made.new.ready
handed c =
    let a = c.args in
    let made = c.fuzzy_make_ready-made.ensures in
    handed_on a.reading a.phrase.now made.value (replicate 384 0) refl made.ready_after c.if-made-ne0.false

pub slice_bounds-ready-end : goal.slice_bounds-ready-end
slice_bounds-ready-end c = (handed (goal.at.slice_bounds-ready-end c).Else-made-ne0).fits

pub slice_bounds-fuzzy_run_in_zone-end : goal.slice_bounds-fuzzy_run_in_zone-end
slice_bounds-fuzzy_run_in_zone-end c = let fits = (handed (goal.at.slice_bounds-fuzzy_run_in_zone-end c).Else-made-ne0).fits in simp length-take (omega arith)

pub returns-then-made-ne0 : goal.returns-then-made-ne0
returns-then-made-ne0 c =
    let a = c.args in
    let n = instant_from a.second a.millisecond in
    let said = c.fuzzy_make_ready-made.ensures.value in
    let none = not-handed a.reading a.phrase.now said c.if-made-ne0.true in
    let whole = rw none.is at (ready_in_zone a.reading a.phrase.now a.zone.now n) in
    record { value = rw (← whole) (said ∙ ap ready_code none.is); due_after = rw (← whole) (search rules); moment_after = rw (← whole) (search rules) }

pub returns : goal.returns
returns c =
    let a = c.args in
    let n = instant_from a.second a.millisecond in
    let h = handed (goal.at.returns c).Else-made-ne0 in
    let made = rw h.is at (ready_in_zone a.reading a.phrase.now a.zone.now n) in
    let steps = ap decode_of h.bytes ∙ read_back a.reading a.phrase.now h.is in
    let whole = ap (λ (ss : List Step). run_in_zone ss a.zone.now n) steps ∙ made in
    let run = c.fuzzy_run_in_zone.ensures in
    record { value = rw (← whole) run.value; due_after = rw (← whole) run.due_after; moment_after = rw (← whole) run.moment_after }
