use mathlib.Core.Path.{sym, ◌∙◌}
use Rattle.zones.proofs.Pieces.{shift_is}
use Rattle.zones.proofs.search.shift_at.Goals as goal

pub returns : goal.returns
returns c =
    let zone = c.args.zone in
    let k = c.passed in
    let o = c.offset_behind.ensures in
    (o.0 ∙ sym (shift_is zone.file.now zone.places c.args.s k.result k.ensures.1 k.ensures.0), o.1, o.2)
