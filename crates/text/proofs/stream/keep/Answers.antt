-- `text::stream::keep` meets its contract. Assumes nothing.
use mathlib.Core.Path.{◌≡◌}
use Prim.Native.Nat.{◌+◌, ◌-◌, ◌≤◌, min}
use native.Mathlib.Omega.{arith}
use lib.ListN.{length, take, drop, length-take, length-drop}
use lib.Seq.{sets-eq}
use Rattle.digits.proofs.Takes.{take-least}
use Rattle.text.proofs.stream.keep.Goals as goal

pub returns : goal.returns
returns c =
    let s = c.args.s.now in
    let at = c.args.at in
    let n = c.min-n.result in
    let least : min 257 (c.args.end - at) ≡ n = omega (arith, c.min-n.ensures) in
    let span : at + n - at ≡ n = omega arith in
    let size : length (take n (drop at s)) ≡ n = rw (length-take, length-drop) (omega (arith, c.min-n.ensures)) in
    let room : 0 + length (take n (drop at s)) ≤ length s = omega (arith, c.min-n.ensures) in
    rw (take-least 257 (c.args.end - at) (drop at s), least)
    (record { count = omega arith; stored = rw (c.copy_within.ensures.after, span, sets-eq (take n (drop at s)) s 0 room, size) })
