use Prim.Native.Nat.{◌*◌}
use mathlib.Core.Path.{◌≡◌}
use Rattle.std.proofs.Common.{arith}
use Rattle.std.proofs.lemmas.Bool.Decides.{nat_tests}
use Rattle.tzif.proofs.Checked.{last_high}
use Rattle.zones.proofs.Bounds.{known_of, last_place}
use Rattle.zones.proofs.instants.go_on.Goals as goal

pub returns-then-zone-s : goal.returns-then-zone-s
returns-then-zone-s c =
    let last = last_place c.args.zone in
    let high = last_high _ _ (known_of c.args.zone) in
    grind (arith, nat_tests)

pub returns : goal.returns
returns c =
    let high = last_high _ _ (known_of c.args.zone) in
    let far : 60 * c.args.k ≡ c.saturating_mul-far.result = omega arith in
    rw far c.arrive.ensures
