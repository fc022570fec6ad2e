-- `rules::part::days_in` meets its contract. The loop's invariant: the bits in hand and those of the weekdays that are left are those of all. Assumes nothing.
use mathlib.Core.Path.{◌≡◌}
use lib.ListN.{length, drop}
use Rattle.rules.specs.Cut.{pieces}
use Rattle.rules.specs.Days.{bits_of}
use Rattle.rules.proofs.part.days_in.Given as goal

abbrev pub invariant-loop-day : goal.invariant-loop-day
invariant-loop-day l = bits_of 0 (pieces 44 l.s) ≡ bits_of l.bits (drop (length l.yielded) (pieces 44 l.s))
