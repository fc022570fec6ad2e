use Rattle.std.proofs.Common.{rules, arith, ◌≡◌, ◌≤◌, ◌∙◌, ◌-◌, length, sym}
use Rattle.std.proofs.lemmas.Result.{err_from_is_err_and}
use Rattle.calendar.proofs.Outcomes.{at_moment, moment_valid}
use Rattle.evaluation.proofs.Links.{no_link, stepped, from_base, link_on, link_refused}
use Rattle.evaluation.proofs.chain.evaluate.Goals as goal
use Rattle.evaluation.proofs.chain.evaluate.Goals.{Start}

-- the links are all there
all_there : (c : Start) → c.args.r.m ≤ length c.args.r.links
all_there c = search rules

pub returns-in_err-t-clause-result_value : goal.returns-in_err-t-clause-result_value
returns-in_err-t-clause-result_value c =
    let p = err_from_is_err_and c.from_residual.result c.from_residual.ensures.1 in
    let most = all_there (goal.at.returns-in_err-t-clause-result_value c).Start in
    rw (p.1, p.2) (link_refused c.args.r _ _ most c.in_err-t.ensures.result_value c.args.r.m _ (omega arith) (no_link stepped c.args.r _))

pub returns-in_err-t-2-clause-result_value : goal.returns-in_err-t-2-clause-result_value
returns-in_err-t-2-clause-result_value c =
    let p = err_from_is_err_and c.from_residual-in_err-t-2.result c.from_residual-in_err-t-2.ensures.1 in
    let l = c.loop-i in
    let based = c.in_ok-t.ensures.result_value in
    let most = all_there (goal.at.returns-in_err-t-2-clause-result_value c).Start in
    let step = rw c.row.ensures.value at c.in_err-t-2.ensures.result_value in
    let on = link_on c.args.r _ _ most based l.i l.t _ c.loop-i-test.true l.auto.i l.invariant.same_way step in
    let near : l.i - 1 ≤ c.args.r.m = omega (arith, l.auto.i) in
    rw (p.1, p.2) (link_refused c.args.r _ _ most based (l.i - 1) _ near on)

pub loop-i-init : goal.loop-i-init
loop-i-init c = record { of_calendar = at_moment c.base_at.ensures.valid c.in_ok-t.was; same_way = no_link stepped c.args.r _ }

pub loop-i-preserved : goal.loop-i-preserved
loop-i-preserved c =
    let l = c.loop-i in
    let most = all_there (goal.at.loop-i-preserved c).Start in
    let step = rw c.row.ensures.value at c.in_ok-t-2.ensures.result_value in
    record {
      of_calendar = at_moment c.duration_step.ensures.valid c.in_ok-t-2.was;
      same_way = link_on c.args.r _ _ most c.in_ok-t.ensures.result_value l.i l.t _ c.loop-i-test.true l.auto.i l.invariant.same_way step;
    }

pub returns : goal.returns
returns c =
    let l = c.loop-i in
    let done : l.i ≡ 0 = omega (arith, c.loop-i-test.false) in
    let most = all_there (goal.at.returns c).Start in
    record {
      result_value = sym (from_base c.args.r c.args.now _ most c.in_ok-t.ensures.result_value ∙ rw done at l.invariant.same_way);
      valid = moment_valid l.invariant.of_calendar;
    }
