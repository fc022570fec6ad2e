use Prim.Native.Nat.{◌≤◌}
use native.Mathlib.Omega.{arith}
use mathlib.Core.Path.{◌≡◌, ap, ◌∙◌}
use lib.ListN.{length}
use lib.Seq.{slice}
use Rattle.phrase.specs.Chains.{row_duration}
use Rattle.steps.specs.Plans.{begun}
use Rattle.steps.specs.declared.plan.Plan.{Plan}
use Rattle.steps.specs.declared.plan.Start.TheVariants.{OnDate}
use Rattle.ready.specs.Made.{add_duration, held}
use Rattle.ready.specs.Bounds.{Within}
use Rattle.ready.proofs.Rows.{row_size}
use Rattle.ready.proofs.Within.{started, within_row}
use Rattle.ready.proofs.make.from_date.Goals as goal
use Rattle.ready.proofs.make.from_date.Goals.{After-single, Start}

-- every part of the row is there
within : (c : Start) → c.args.parts.n ≤ length c.args.parts.items
within c = let long : length c.args.parts.items ≡ 21 = c.well_formed.1.0.1.1.1.0.1.0.1 in omega (arith, c.requires.1)

-- the date
start : (c : After-single) → (c.single.result ≡ begun (OnDate c.args.date)) × Within c.single.result 1
start c = started _ c.single.ensures (omega arith)

pub add_parts-requires : goal.add_parts-requires
add_parts-requires c =
    let begun = (start (goal.at.add_parts-requires c).After-single).1 in
    record { n_nonzero = omega (arith, c.requires); widest_bound = omega (arith, c.requires) }

pub returns : goal.returns
returns c =
    let there = (goal.at.returns c).After-single in
    let a = c.args in
    let row = slice a.own a.parts.n a.parts.items in
    let all = row_size a.parts.items a.own a.parts.n c.requires.0 (within (goal.at.returns c).Start) in
    record {
      value = c.add_parts.ensures.value ∙ ap (λ (p : Plan). add_duration held a.back p (row_duration row)) (start there).0;
      within = within_row (start there).1 c.add_parts.ensures.longer (omega arith);
    }
