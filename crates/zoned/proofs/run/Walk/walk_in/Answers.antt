use Prim.Native.Nat.{◌+◌, ◌-◌, ◌*◌, ◌/◌}
use mathlib.Core.Path.{◌≡◌, sym, ◌∙◌}
use lib.ListN.{length}
use Rattle.std.specs.Prelude.{Result}
use Rattle.std.proofs.lemmas.Result.{err_from_is_err_and}
use Rattle.refusals.specs.declared.Reason.{Reason}
use Rattle.calendar.specs.Moments.{and_then}
use Rattle.steps.specs.Running.{walk_in}
use Rattle.records.specs.Records.{steps_at}
use Rattle.records.proofs.Lists.{steps_next}
use Rattle.tzif.specs.Read.{zone_read}
use Rattle.zones.specs.Civil.{answer_of}
use Rattle.zones.specs.declared.instants.Instant.{Instant}
use Rattle.zoned.specs.InZone.{in_zone}
use Rattle.zoned.proofs.Acts.{at_shown}
use Rattle.zoned.proofs.run.Walk.walk_in.Goals as goal
use Rattle.zoned.proofs.run.Walk.walk_in.Goals.{After-act_in}

-- one turn: the whole way is what the step of this record gives, and then the way from the next one on
turned :
    (c : After-act_in) (x : Result Instant Reason) → c.act_in.result ≡ x → let walk = c.args.self.now in
    let z = zone_read walk.zone in
    let ready = walk.ready.now in
    let next = c.loop-i.i + 1 in
    walk_in (in_zone z) (steps_at (length ready / 16 - c.args.k) ready (16 * c.args.k)) walk.instant c.args.from
    ≡ and_then (answer_of x) (walk_in (in_zone z) (steps_at (length ready / 16 - next) ready (16 * next)) walk.instant)
turned c x e =
    let ready = c.args.self.now.ready.now in
    let next = steps_next (length ready / 16) c.loop-i.i ready c.loop-i-test.true in
    c.loop-i.invariant.same ∙ rw (next, ← c.act_in.ensures.result_value, e)

pub returns-in_err-x-clause-result_value : goal.returns-in_err-x-clause-result_value
returns-in_err-x-clause-result_value c =
    let p = err_from_is_err_and c.from_residual.result c.from_residual.ensures.1 in
    rw (p.1, p.2) (sym (turned (goal.at.returns-in_err-x-clause-result_value c).After-act_in _ c.in_err-x.was))

pub loop-i-preserved : goal.loop-i-preserved
loop-i-preserved c = record {
  shown = at_shown _ c.act_in.ensures.kept c.in_ok-x.was;
  same = turned (goal.at.loop-i-preserved c).After-act_in _ c.in_ok-x.was;
}
