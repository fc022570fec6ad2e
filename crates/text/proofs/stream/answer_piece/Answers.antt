-- `text::stream::answer_piece` meets its contract. Assumes nothing.
use mathlib.Core.Path.{sym}
use lib.Seq.{length-take-le}
use Rattle.text.proofs.Streams.{pieced}
use Rattle.text.proofs.stream.answer_piece.Goals as goal

pub slice_bounds-write_lines-end-2 : goal.slice_bounds-write_lines-end-2
slice_bounds-write_lines-end-2 c = sym (length-take-le _ _ c.requires.0)

pub write_lines-p-requires : goal.write_lines-p-requires
write_lines-p-requires c = rw (length-take-le _ _ c.requires.0) c.requires.1

pub keep-held-requires : goal.keep-held-requires
keep-held-requires c =
    let within = c.write_lines-p.ensures.bounds.within in
    (rw (length-take-le _ _ c.requires.0) at within, c.requires.0)

pub returns : goal.returns
returns c =
    let told = c.write_lines-p.ensures in
    let piece = pieced c.args.k c.requires.0 told.value told.bounds c.keep-held.ensures in
    record { value = piece.0; bounds = piece.1.0; input = piece.1.1; output = told.buffer }
