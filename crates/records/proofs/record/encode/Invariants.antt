use Prim.Native.Nat.{◌*◌}
use mathlib.Core.Path.{◌≡◌}
use lib.ListN.{drop}
use lib.Seq.{sets}
use Rattle.records.specs.Records.{encode_of}
use Rattle.records.proofs.record.encode.Given as goal

-- what is still to be put makes the rest
abbrev pub invariant-loop-i : goal.invariant-loop-i
invariant-loop-i l = sets l.b (16 * l.i) (encode_of (drop l.i l.step-items)) ≡ sets l.initial.b 0 (encode_of l.step-items)
