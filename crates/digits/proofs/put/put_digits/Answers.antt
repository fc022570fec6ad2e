-- `digits::put::put_digits` meets its contract. The loop's invariant: the digits from i on are written. Assumes nothing.
use mathlib.Core.Path.{◌≡◌, ◌∙◌}
use mathlib.Core.List.{◌∷◌}
use Prim.Native.Nat.{suc, ◌+◌, ◌-◌}
use native.Mathlib.Nat.{add-zero}
use native.Mathlib.Omega.{arith}
use Rattle.digits.proofs.Stores.{set_before}
use Rattle.digits.proofs.Widths.{digits_last}
use Rattle.digits.proofs.put.put_digits.Goals as goal

pub loop-i-preserved : goal.loop-i-preserved
loop-i-preserved c =
    let inv = c.loop-i.invariant in
    let next : c.args.at + c.loop-i.i ≡ suc (c.args.at + (c.loop-i.i - 1)) = omega arith in
    record {
      done = c.digit.result ∷ inv.done;
      within = omega arith;
      stored = rw (inv.stored, next) (set_before c.args.out.now (c.args.at + (c.loop-i.i - 1)) c.digit.result inv.done);
      digits = rw c.digit.ensures (inv.digits ∙ digits_last c.loop-i.i c.loop-i.rest inv.done (omega arith));
    }

pub returns : goal.returns
returns c =
    let inv = c.loop-i.invariant in
    let none : c.loop-i.i ≡ 0 = omega arith in
    rw (inv.stored, inv.digits, none, add-zero)
