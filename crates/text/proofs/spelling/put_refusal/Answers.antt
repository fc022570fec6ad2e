-- `text::spelling::put_refusal` meets its contract. Assumes nothing.
use mathlib.Core.Path.{◌∙◌}
use Rattle.text.proofs.Spelled.{refusal_stored}
use Rattle.text.proofs.spelling.put_refusal.Goals as goal

pub returns : goal.returns
returns c =
    let args = c.args in
    c.put_number.ensures.1
    ∙ rw (c.put_bytes-2.ensures, c.put_number-at.ensures.1, c.put_bytes.ensures)
    (refusal_stored args.out.now args.number args.place c.put_number-at.result c.put_number-at.ensures.0)
