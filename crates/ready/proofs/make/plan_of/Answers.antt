use Prim.Native.Nat.{ℕ, ◌+◌, ◌-◌, ◌≤◌, ◌<◌}
use native.Mathlib.Omega.{arith}
use Rattle.std.proofs.Common.{rules}
use mathlib.Core.Path.{◌≡◌, sym, ◌∙◌}
use lib.ListN.{length}
use Rattle.phrase.specs.Chains.{base_of, size_tree}
use Rattle.evaluation.proofs.Links.{link_at, no_link}
use Rattle.ready.proofs.Rows.{row_size}
use Rattle.ready.proofs.Links.{behind, counted, size_at, whole_plan, whole_size, inner_size, turn_size, turn_plan}
use Rattle.ready.proofs.Within.{within_row}
use Rattle.ready.proofs.make.plan_of.Goals as goal
use Rattle.ready.proofs.make.plan_of.Goals.{Start}

-- the links are all there
all_there : (c : Start) → c.args.r.m ≤ length c.args.r.links
all_there c = search rules

-- what is inside has at most 21 parts
few : (c : Start) {i : ℕ} → i ≤ c.args.r.m → size_at c.args.r i ≤ 21
few c {i} h = omega (arith, inner_size c.args.r (all_there c) i h, whole_size c.args.r, c.requires.1)

-- the tree with the next link has the parts of that link more
sizes :
    (c : Start) (i : ℕ) → 0 < i → i ≤ c.args.r.m →
    let r = c.args.r in
    let link = link_at r (i - 1) in
    size_at r i + link.to ≡ size_at r (i - 1) + link.from
sizes c i some h =
    let r = c.args.r in
    let link = link_at r (i - 1) in
    let long : length r.parts.items ≡ 21 = search rules in
    let most = c.requires.0.to_most (i - 1) (omega arith) in
    let row = row_size r.parts.items link.from link.to (c.requires.0.from_to (i - 1) (omega arith)) (omega arith) in
    omega (arith, turn_size r (all_there c) i some h)

pub base_plan-p-requires : goal.base_plan-p-requires
base_plan-p-requires c =
    let r = c.args.r in
    (c.requires.0, omega (arith, few (goal.at.base_plan-p-requires c).Start {i = r.m} (omega arith), no_link counted r (size_tree (base_of r))))

pub loop-i-init : goal.loop-i-init
loop-i-init c =
    let r = c.args.r in
    record { same_way = rw (no_link behind r) c.base_plan-p.ensures.0; inside = rw (no_link counted r) c.base_plan-p.ensures.1 }

pub add_parts-p-requires : goal.add_parts-p-requires
add_parts-p-requires c =
    let loop = c.loop-i in
    let here = (goal.at.add_parts-p-requires c).Start in
    let inside = loop.invariant.inside in
    let longer = sizes here loop.i c.loop-i-test.true loop.auto.i in
    let most = few here {i = loop.i - 1} (omega arith) in
    record {
      n_nonzero = (inside.some, c.requires.0.from_to (loop.i - 1) (omega arith), c.requires.0.to_most (loop.i - 1) (omega arith), omega (arith, inside.most));
      widest_bound = omega (arith, inside.minutes);
    }

pub loop-i-preserved : goal.loop-i-preserved
loop-i-preserved c =
    let loop = c.loop-i in
    let r = c.args.r in
    let here = (goal.at.loop-i-preserved c).Start in
    record {
      same_way = c.add_parts-p.ensures.value ∙ turn_plan r (all_there here) loop.i c.loop-i-test.true loop.auto.i loop.invariant.same_way;
      inside = within_row loop.invariant.inside c.add_parts-p.ensures.longer (omega (arith, sizes here loop.i c.loop-i-test.true loop.auto.i));
    }

pub returns : goal.returns
returns c =
    let loop = c.loop-i in
    let done : loop.i ≡ 0 = omega (arith, c.loop-i-test.false) in
    (rw done at loop.invariant.same_way) ∙ sym (whole_plan c.args.r)
