use mathlib.Core.Path.{◌≡◌, sym}
use Rattle.std.specs.Prelude.{Some, None}
use Rattle.std.proofs.Common.{arith}
use Rattle.std.proofs.lemmas.Result.{err_from_is_err_and}
use Rattle.refusals.specs.declared.Reason.TheVariants.{NoZone}
use Rattle.refusals.specs.Answers.{given}
use Rattle.tzif.specs.File.{zone_of}
use Rattle.tzif.specs.Read.{zone_read}
use Rattle.tzif.proofs.Checked.{zone_checked}
use Rattle.zoned.specs.Local.{run_in_zone}
use Rattle.zoned.proofs.Acts.{at_shown}
use Rattle.zoned.proofs.local.run_in_zone.Goals as goal
use Rattle.zoned.proofs.local.run_in_zone.Goals.{In_ok-zone}

-- the zone that was found is the file's
found : (c : In_ok-zone) → zone_of c.args.file.now ≡ given (zone_read c.in_ok-zone.zone)
found c =
    let some : c.check.result ≡ Some c.in_ok-zone.zone = grind arith in
    let places = rw some at c.check.ensures.places in
    let same = rw some at c.check.ensures.same in
    let bytes : c.in_ok-zone.zone.file.now ≡ c.args.file.now = rw same in
    zone_checked c.args.file.now c.in_ok-zone.zone (sym places) bytes

pub returns-in_err-zone : goal.returns-in_err-zone
unfolding run_in_zone zone_of
returns-in_err-zone c =
    let p = err_from_is_err_and c.from_residual.result c.from_residual.ensures.1 in
    let none : c.check.result ≡ None = grind arith in
    let places = rw none at c.check.ensures.places in
    let value = rw none at c.ok_or.ensures.value in
    let was = c.in_err-zone.was in
    let reason : c.in_err-zone.field-0.0 ≡ NoZone = cc in
    rw (p.1, p.2, ← places, reason)

pub returns-in_err-x : goal.returns-in_err-x
unfolding run_in_zone
returns-in_err-x c =
    let p = err_from_is_err_and c.from_residual-in_err-x.result c.from_residual-in_err-x.ensures.1 in
    rw (p.1, p.2, found (goal.at.returns-in_err-x c).In_ok-zone, ← c.run_at.ensures.result_value, c.in_err-x.was)

pub local_at-requires : goal.local_at-requires
local_at-requires c = at_shown _ c.run_at.ensures.kept c.in_ok-x.was

pub returns : goal.returns
unfolding run_in_zone
returns c = rw (found (goal.at.returns c).In_ok-zone, ← c.run_at.ensures.result_value, c.in_ok-x.was, c.local_at.ensures)
