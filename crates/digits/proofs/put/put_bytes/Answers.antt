-- `digits::put::put_bytes` meets its contract. Assumes nothing.
use Prim.Native.Nat.{◌+◌, ◌-◌}
use native.Mathlib.Omega.{arith}
use mathlib.Core.Path.{◌≡◌}
use lib.ListN.{length}
use Rattle.std.proofs.lemmas.List.{drop-drop}
use lib.Seq.{sets-eq}
use Rattle.std.proofs.Common.{append_assoc}
use Rattle.digits.proofs.put.put_bytes.Goals as goal

pub returns : goal.returns
returns c =
    let s = c.args.s.now in
    let fits : c.args.at + length s - c.args.at ≡ length s = omega arith in
    rw (c.copy_from_slice.ensures.after, sets-eq s c.args.out.now c.args.at c.requires) (simp (fits, append_assoc, drop-drop))
