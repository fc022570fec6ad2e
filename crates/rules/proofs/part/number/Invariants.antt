-- `rules::part::number` meets its contract. The loop's invariant: what stands before b are digits, and what all say, cut off at the first number that is too large, is
-- what the rest says behind v. Assumes nothing.
use Rattle.rules.proofs.Digits.{Behind}
use Rattle.rules.proofs.part.number.Given as goal

abbrev pub invariant-loop-b : goal.invariant-loop-b
invariant-loop-b l = Behind l.s l.b-index l.v
