use Rattle.std.proofs.Common.{arith}
use Rattle.std.proofs.lemmas.Bool.Decides.{nat_tests}
use Rattle.tzif.proofs.Checked.{last_high}
use Rattle.zones.proofs.Bounds.{known_of}
use Rattle.zones.proofs.instants.go_back.Goals as goal

pub returns-then-s-far : goal.returns-then-s-far
returns-then-s-far c = let high = last_high _ _ (known_of c.args.zone) in grind (arith, nat_tests)

pub returns : goal.returns
returns c = let high = last_high _ _ (known_of c.args.zone) in grind (arith, nat_tests)
