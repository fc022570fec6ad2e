use Prim.Native.Nat.{◌-◌, ◌*◌, ◌/◌}
use native.Mathlib.Omega.{arith}
use native.Mathlib.Nat.{sub-zero}
use mathlib.Core.Path.{◌≡◌, sym, ◌∙◌}
use lib.ListN.{length}
use Rattle.std.specs.Prelude.{Result}
use Rattle.std.proofs.lemmas.Result.{err_from_is_err_and}
use Rattle.refusals.specs.declared.Reason.{Reason}
use Rattle.calendar.specs.Moments.{and_then}
use Rattle.steps.specs.Running.{walk_in, lead_in}
use Rattle.records.specs.Records.{steps_at, decode_of}
use Rattle.tzif.specs.Read.{zone_read}
use Rattle.zones.specs.Civil.{answer_of}
use Rattle.zones.specs.declared.instants.Instant.{Instant}
use Rattle.zoned.specs.InZone.{in_zone}
use Rattle.zoned.proofs.Acts.{at_shown}
use Rattle.zoned.proofs.Ahead.{some_record, lead_dated, lead_now}
use Rattle.zoned.proofs.run.Walk.lead_in.Goals as goal
use Rattle.zoned.proofs.run.Walk.lead_in.Goals.{After-instant_of}

-- where the time of day leads, and from there the steps behind it
led :
    (c : After-instant_of) (x : Result Instant Reason) → c.instant_of.result ≡ x → let walk = c.args.self.now in
    let z = zone_read walk.zone in
    let ready = walk.ready.now in
    let k = c.up_to_time-k.result in
    lead_in (in_zone z) (decode_of ready) walk.instant
    ≡ and_then (answer_of x) (walk_in (in_zone z) (steps_at (length ready / 16 - k) ready (16 * k)) walk.instant)
led c x e =
    let walk = c.args.self.now in
    let k = c.up_to_time-k in
    let due = sym c.times_due.ensures ∙ c.if-times_due-ne1.false in
    let first = rw c.step_at.ensures at due in
    let lead = lead_dated (zone_read walk.zone) walk.ready.now c.requires walk.instant k.result k.ensures.0 k.ensures.1 first in
    let walked = rw (sub-zero, c.clock_of-at.ensures.0) at c.walk.ensures.result_value in
    lead ∙ rw (← walked, ← c.instant_of.ensures.result_value, e)

pub step_at-requires : goal.step_at-requires
step_at-requires c = omega (arith, some_record c.args.self.now.ready.now c.requires)

pub returns-then-times_due-ne1-clause-result_value : goal.returns-then-times_due-ne1-clause-result_value
returns-then-times_due-ne1-clause-result_value c =
    let walk = c.args.self.now in
    let other = rw (c.times_due.ensures, c.step_at.ensures) at c.if-times_due-ne1.true in
    c.walk_in.ensures.result_value ∙ sym (lead_now (zone_read walk.zone) walk.ready.now c.requires walk.instant other)

pub returns-in_err-x-clause-result_value : goal.returns-in_err-x-clause-result_value
returns-in_err-x-clause-result_value c =
    let p = err_from_is_err_and c.from_residual.result c.from_residual.ensures.1 in
    rw (p.1, p.2) (sym (led (goal.at.returns-in_err-x-clause-result_value c).After-instant_of _ c.in_err-x.was))

pub walk_in-requires-2 : goal.walk_in-requires-2
walk_in-requires-2 c = at_shown _ c.instant_of.ensures.kept c.in_ok-x.was

pub returns-clause-result_value : goal.returns-clause-result_value
returns-clause-result_value c =
    c.walk_in-2.ensures.result_value ∙ sym (led (goal.at.returns-clause-result_value c).After-instant_of _ c.in_ok-x.was)
