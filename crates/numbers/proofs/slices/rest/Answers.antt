use mathlib.Core.Path.{refl, ap, ◌∙◌}
use Prim.Native.Nat.{◌-◌}
use native.Mathlib.Omega.{arith}
use lib.ListN.{length, drop, length-drop}
use lib.Seq.{take_all}
use Rattle.numbers.proofs.slices.rest.Goals as goal

pub returns : goal.returns
returns c =
    let a = c.args in
    let e = take_all (length a.l.now - a.t) (drop a.t a.l.now) (simp length-drop (omega arith)) in
    let n = ap length e ∙ length-drop a.t a.l.now in
    record { result_value = e; result_value_2 = omega arith; own = refl }
