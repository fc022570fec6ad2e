use Prim.Native.Nat.{◌+◌, ◌≤◌, ◌<◌}
use native.Mathlib.Omega.{arith}
use Rattle.phrase.proofs.Gathering.{begin, base_left, link_gathered, gathered_all}
use Rattle.phrase.proofs.gather.gather.Goals as goal
use Rattle.phrase.proofs.gather.gather.Goals.{After-is_back}

-- there is room for it
room : (c : After-is_back) →
    let loop = c.loop-i in
    (loop.i < 21) × (loop.at + (c.with_parts-row.result.end + 1) ≤ 64)
room c =
    let again = link_gathered c.loop-i.invariant c.loop-i-test.true c.rest-left.ensures.result_value c.with_parts-row.ensures c.is_back.ensures in
    let more = again.gathering in
    (omega arith, omega arith)

pub loop-i-init : goal.loop-i-init
loop-i-init c = begin c.args.reading c.args.l.now c.args.n c.requires (rw (c.in_ok-o.was, c.in-Some.is) at c.read_outline.ensures)

-- the link that was read at the end of a turn: what has room with it has room
pub loop-i-preserved : goal.loop-i-preserved
loop-i-preserved c =
    link_gathered c.loop-i.invariant c.loop-i-test.true c.rest-left.ensures.result_value c.with_parts-row.ensures c.is_back.ensures

pub bounds-links-i : goal.bounds-links-i
bounds-links-i c = let r = room (goal.at.bounds-links-i c).After-is_back in omega arith

pub overflow_add-at : goal.overflow_add-at
overflow_add-at c = let r = room (goal.at.overflow_add-at c).After-is_back in omega arith

pub overflow_add-at-in-loop-i : goal.overflow_add-at-in-loop-i
overflow_add-at-in-loop-i c = let r = room (goal.at.overflow_add-at-in-loop-i c).After-is_back in omega arith

pub overflow_add-at-2 : goal.overflow_add-at-2
overflow_add-at-2 c = let b = base_left c.loop-i.invariant.gathering c.loop-i-test.false in omega arith

pub rest-requires : goal.rest-requires
rest-requires c = let b = base_left c.loop-i.invariant.gathering c.loop-i-test.false in omega arith

pub returns : goal.returns
returns c = gathered_all c.loop-i.invariant c.loop-i-test.false c.rest.ensures.result_value c.with_own.ensures
