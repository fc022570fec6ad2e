-- `text::now::no_now` meets its contract. Assumes nothing.
use Rattle.text.proofs.now.no_now.Goals as goal

pub returns : goal.returns
returns c = rw (c.with_time.ensures, c.with_date.ensures)
