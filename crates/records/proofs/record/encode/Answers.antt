use lib.ListN.{take}
use mathlib.Core.Path.{◌∙◌}
use Rattle.records.proofs.Lists.{put_step}
use Rattle.records.proofs.record.encode.Goals as goal

pub loop-i-preserved : goal.loop-i-preserved
loop-i-preserved c =
    let l = c.loop-i in
    rw (c.put_words.ensures, c.words_of.ensures) (put_step l.b (take c.args.p.n c.args.p.slots) l.i c.loop-i-test.true ∙ l.invariant)
