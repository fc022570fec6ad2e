use Prim.Native.Nat.{◌+◌, ◌-◌}
use native.Mathlib.Omega.{arith}
use mathlib.Core.Path.{◌≡◌, sym, ◌∙◌}
use lib.Seq.{sets-eq}
use Rattle.std.proofs.Common.{append_assoc}
use Rattle.std.proofs.lemmas.List.{drop-drop}
use Rattle.calendar.specs.Moments.{seven}
use Rattle.repeats.proofs.listing.put_row.Goals as goal

pub returns : goal.returns
returns c =
    let fits : c.args.at + 7 - c.args.at ≡ 7 = omega arith in
    rw (c.copy_from_slice.ensures.after, c.from.ensures) (simp (fits, append_assoc, drop-drop))
    ∙ sym (sets-eq (seven c.args.t) c.args.moments.now c.args.at c.requires)
