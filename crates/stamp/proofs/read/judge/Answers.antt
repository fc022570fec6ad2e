-- `stamp::read::judge` meets its contract. Assumes nothing.
use native.Mathlib.Omega.{arith}
use Prim.Native.Nat.{◌-◌}
use lib.ListN.{length, drop, length-drop}
use lib.Seq.{take_all}
use Rattle.std.proofs.lemmas.Grind.{common_steps}
use Rattle.stamp.proofs.read.judge.Goals as goal
use Rattle.stamp.proofs.read.judge.Goals.{else-moment_exists-via-then-moment_exists+else-offset_exists, else-moment_exists-via-else-moment_exists}

pub returns-else-moment_exists : goal.returns-else-moment_exists
returns-else-moment_exists c =
    let s = c.args.text.now in
    let p = c.offset_place-p.result in
    let end = take_all (length s - p) (drop p s) (simp length-drop (omega arith)) in
    elim c.else-moment_exists.branch [
      | else-moment_exists-via-then-moment_exists+else-offset_exists w ↦ let none = rw end at w.offset_exists.ensures in grind (arith, common_steps, none)
      | else-moment_exists-via-else-moment_exists w ↦ grind (arith, common_steps)
    ]
