-- `text::stream::write_last` meets its contract. Assumes nothing.
use mathlib.Core.Path.{refl, ◌∙◌}
use native.Mathlib.Nat.{zero-add}
use Rattle.text.proofs.Streams.{last_none, last_some}
use Rattle.text.proofs.stream.write_last.Goals as goal

pub returns-then-rest-eq0 : goal.returns-then-rest-eq0
returns-then-rest-eq0 c =
    let args = c.args in
    rw (last_none args.k args.rest.now c.if-rest-eq0.true) (record { count = refl; stored = refl })

pub returns : goal.returns
returns c =
    let args = c.args in
    let w = c.write_next.ensures in
    rw (last_some args.k args.rest.now c.if-rest-eq0.false)
    (record { count = w.count ∙ zero-add _; stored = w.stored })
