use Prim.Native.Nat.{◌+◌, ◌-◌, ◌≤◌}
use native.Mathlib.Omega.{arith}
use mathlib.Core.Path.{◌≡◌, refl, ap, sym, ◌∙◌}
use mathlib.Core.List.{List}
use Rattle.dates.specs.declared.duration.Slot.{Slot}
use lib.ListN.{length, take, drop}
use Rattle.std.proofs.lemmas.List.{drop_all}
use Rattle.steps.specs.Plans.{add_to}
use Rattle.steps.specs.declared.plan.Move.{Move}
use Rattle.steps.specs.declared.plan.Step.TheVariants.{By}
use Rattle.evaluation.proofs.Rows.{over_row, next_part, cut}
use Rattle.ready.proofs.Rows.{step_behind, row_added, row_length}
use Rattle.ready.proofs.Within.{grown}
use Rattle.ready.proofs.make.add_parts.Goals as goal
use Rattle.ready.proofs.make.add_parts.Goals.{Start}

-- every part of the row is there
within : (c : Start) → c.args.to ≤ length c.args.parts.items
within c = let long : length c.args.parts.items ≡ 21 = c.well_formed.1.0.1.1.1.0.1.0.1 in omega (arith, c.requires.n_nonzero)

-- as many as its places
counted : (c : Start) → length (take (c.args.to - c.args.from) (drop c.args.from c.args.parts.items)) + c.args.from ≡ c.args.to
counted c = row_length _ _ _ c.requires.n_nonzero.1 (within c)

pub loop-slot-init : goal.loop-slot-init
loop-slot-init c = record { longer = record { some = c.requires.n_nonzero.0; most = omega arith; minutes = omega arith }; same_way = refl }

pub add-q-requires : goal.add-q-requires
add-q-requires c =
    let inv = c.loop-slot.invariant.longer in
    let more = counted (goal.at.add-q-requires c).Start in
    omega (arith, c.part_move.ensures.1, inv.some, inv.most, inv.minutes)

pub loop-slot-preserved : goal.loop-slot-preserved
loop-slot-preserved c =
    let loop = c.loop-slot in
    let inv = loop.invariant.longer in
    let step = c.part_move in
    let more = grown (By step.result) c.add-q.ensures inv.some in
    let few = step.ensures.1 in
    record {
      longer = record { some = more.some; most = omega (arith, inv.most); minutes = omega (arith, inv.minutes) };
      same_way = loop.invariant.same_way ∙ next_part (step_behind c.args.back) _ loop.slot-index _ c.loop-slot-test.true
          ∙ sym (ap (over_row (step_behind c.args.back) (drop (loop.slot-index + 1) _))
          (c.add-q.ensures ∙ ap (λ (m : Move). add_to loop.q (By m)) step.ensures.0));
    }

pub returns : goal.returns
returns c =
    let loop = c.loop-slot in
    let a = c.args in
    let here = (goal.at.returns c).Start in
    let more = counted here in
    let all : length (take (a.to - a.from) (drop a.from a.parts.items)) ≤ loop.slot-index = omega arith in
    let last : a.from + loop.slot-index ≡ a.to = omega (arith, loop.auto.slot-index-end) in
    record {
      value = sym (row_added a.parts.items a.from a.to c.requires.n_nonzero.1 (within here) a.back a.p ∙ sym (ap (λ (l : List Slot). over_row (step_behind a.back) l a.p) (cut a.from a.to a.parts.items c.requires.n_nonzero.1)) ∙ loop.invariant.same_way ∙ rw (drop_all loop.slot-index _ all));
      longer = rw last at loop.invariant.longer;
    }
