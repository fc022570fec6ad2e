use mathlib.Core.Path.{sym, ◌∙◌}
use Prim.Native.Nat.{◌<◌}
use Rattle.std.proofs.Common.{arith}
use Rattle.std.proofs.lemmas.Bool.Decides.{nat_tests}
use Rattle.steps.specs.Running.{run_in}
use Rattle.tzif.specs.Read.{zone_read}
use Rattle.zones.specs.Civil.{last_in}
use Rattle.zones.proofs.Bounds.{last_place}
use Rattle.zoned.specs.InZone.{run_at}
use Rattle.zoned.proofs.Acts.{years_good}
use Rattle.zoned.proofs.run.run_at.Goals as goal

pub returns-then-n-gt999-clause-result_value : goal.returns-then-n-gt999-clause-result_value
unfolding run_at
returns-then-n-gt999-clause-result_value c = grind (arith, nat_tests)

pub returns-then-zone-n-clause-result_value : goal.returns-then-zone-n-clause-result_value
unfolding run_at
returns-then-zone-n-clause-result_value c = let last = last_place c.args.zone in grind (arith, nat_tests)

pub returns-then-not-in_years-clause-result_value : goal.returns-then-not-in_years-clause-result_value
unfolding run_at
returns-then-not-in_years-clause-result_value c = let last = last_place c.args.zone in grind (arith, nat_tests)

pub returns-then-not-is_list-clause-result_value : goal.returns-then-not-is_list-clause-result_value
unfolding run_at run_in
returns-then-not-is_list-clause-result_value c = let last = last_place c.args.zone in grind (arith, nat_tests)

pub invariant_of-walk : goal.invariant_of-walk
invariant_of-walk c =
    let known : c.args.n.second < last_in (zone_read c.args.zone) = omega (arith, last_place c.args.zone) in
    let years = sym (rw c.civil_of.ensures at c.in_years.ensures) ∙ c.if-not-in_years.false in
    record { shown = record { good = years_good _ _ known years; small = omega arith } }

pub returns-clause-result_value : goal.returns-clause-result_value
unfolding run_at run_in
returns-clause-result_value c = let last = last_place c.args.zone in grind (arith, nat_tests)
