-- `rules::part::month_part` meets its contract. Assumes nothing.
use Rattle.rules.proofs.part.month_part.Goals as goal

pub returns-in_err-number-in-Some : goal.returns-in_err-number-in-Some
returns-in_err-number-in-Some c = rw (c.in-Some.ensures.0, c.from_residual.ensures, ← c.in-Some.ensures.1, ← c.without_plus.ensures, ← c.in_err-number-in-Some.ensures)

pub returns-in_ok-number-in-Some : goal.returns-in_ok-number-in-Some
returns-in_ok-number-in-Some c = rw (c.in-Some.ensures.0, ← c.in-Some.ensures.1, ← c.without_plus.ensures, ← c.in_ok-number-in-Some.ensures)

pub returns-in-None : goal.returns-in-None
returns-in-None c = rw c.in-None.ensures c.week_part.ensures
