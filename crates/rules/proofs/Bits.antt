-- The bits of weekdays, one weekday at a time. Assumes nothing.
use Prim.Native.Nat.{ℕ, ◌+◌, ◌<◌}
use native.Mathlib.Numerals.{add-one}
use mathlib.Core.Path.{◌≡◌}
use mathlib.Core.List.{List}
use lib.Bits.{bit_or}
use lib.ListN.{length, get_or, drop}
use lib.Seq.{drop-cons}
use Rattle.std.proofs.Common.{Some, None}
use Rattle.rules.specs.Days.{day_bit, bits_of}

-- by the weekday p at place i
module _ (bits : ℕ) (ps : List (List ℕ)) (i : ℕ) (p : List ℕ) (less : i < length ps) (here : p ≡ get_or ps i p) where
  pub bits_on : (b : ℕ) → Some b ≡ day_bit p → bits_of bits (drop i ps) ≡ bits_of (bit_or bits b) (drop (i + 1) ps)
  bits_on b is = rw (drop-cons ps i p, ← here, ← is, add-one)

  pub bits_none : None ≡ day_bit p → bits_of bits (drop i ps) ≡ None
  bits_none is = rw (drop-cons ps i p, ← here, ← is)
