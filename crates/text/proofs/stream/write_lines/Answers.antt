-- `text::stream::write_lines` meets its contract. The loop's invariant: the lines before `at` are read. Assumes nothing.
use mathlib.Core.Path.{sym, ◌∙◌}
use native.Mathlib.Omega.{arith}
use Rattle.text.proofs.Cuts.{Next, next_line, open_line}
use Rattle.text.proofs.Streams.{has_room, turned, over}
use Rattle.text.proofs.stream.write_lines.Goals as goal
use Rattle.text.proofs.stream.write_lines.Goals.{In-Some}

-- the line that a line feed ends
next : (c : In-Some) → Next c.args.s.now c.loop-end.at c.in-Some.end
next c = next_line c.args.s.now c.loop-end.at (sym c.in-Some.is ∙ c.line_end.ensures)

pub slice_bounds-line-count : goal.slice_bounds-line-count
slice_bounds-line-count c = (next c).within.0

pub slice_bounds-line-start : goal.slice_bounds-line-start
slice_bounds-line-start c = (next c).within.0

pub slice_bounds-line-end : goal.slice_bounds-line-end
slice_bounds-line-end c = omega (arith, (next c).within)

pub write_next-count-requires : goal.write_next-count-requires
write_next-count-requires c = has_room c.loop-end.invariant c.requires (omega (arith, (next (goal.at.write_next-count-requires c).In-Some).within))

pub loop-end-smaller : goal.loop-end-smaller
loop-end-smaller c = omega (arith, (next (goal.at.loop-end-smaller c).In-Some).within)

pub loop-end-preserved : goal.loop-end-preserved
loop-end-preserved c = turned c.loop-end.invariant (next (goal.at.loop-end-preserved c).In-Some) c.write_next-count.ensures c.after_line-known.ensures

pub returns : goal.returns
returns c =
    let all = over c.loop-end.invariant (open_line c.args.s.now c.loop-end.at (sym c.in_default.is ∙ c.line_end.ensures)) in
    record { value = all.0; bounds = all.1.0; buffer = all.1.1 }
