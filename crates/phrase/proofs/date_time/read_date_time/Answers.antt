use mathlib.Core.Path.{sym}
use native.Mathlib.Omega.{arith}
use Rattle.std.proofs.lemmas.Grind.{common_steps}
use Rattle.phrase.proofs.Outlining.{unlinked, turn_learnt, turn_taken, turn_within, turn_none}
use Rattle.phrase.proofs.date_time.read_date_time.Goals as goal

pub loop-turn-init : goal.loop-turn-init
loop-turn-init c = unlinked c.args.reading c.args.l.now

pub returns-in_err-turn : goal.returns-in_err-turn
returns-in_err-turn c =
    let said = turn_learnt c.loop-turn.invariant c.rest.ensures.result_value c.read_turn.ensures c.in_err-turn.was in
    grind (arith, common_steps, said)

pub returns-in_default : goal.returns-in_default
returns-in_default c = turn_none c.loop-turn.invariant c.rest.ensures.result_value c.read_turn.ensures c.in_ok-turn.was c.in_default.is

pub overflow_add-taken : goal.overflow_add-taken
overflow_add-taken c =
    let within = turn_within c.loop-turn.invariant c.rest.ensures.result_value c.read_turn.ensures c.in_ok-turn.was c.in-Some.is in
    omega arith

pub returns-in-Whole : goal.returns-in-Whole
returns-in-Whole c = sym (turn_taken c.loop-turn.invariant c.rest.ensures.result_value c.read_turn.ensures c.in_ok-turn.was c.in-Some.is c.in-Whole.is).0

pub returns-in-Ago : goal.returns-in-Ago
returns-in-Ago c =
    rw (c.bare.ensures c.args.reading) (sym (turn_taken c.loop-turn.invariant c.rest.ensures.result_value c.read_turn.ensures c.in_ok-turn.was c.in-Some.is c.in-Ago.is).0)

-- a link more: what has room with it has room
pub loop-turn-preserved : goal.loop-turn-preserved
loop-turn-preserved c = turn_taken c.loop-turn.invariant c.rest.ensures.result_value c.read_turn.ensures c.in_ok-turn.was c.in-Some.is c.in-Link.is

pub loop-turn-smaller : goal.loop-turn-smaller
loop-turn-smaller c =
    let again = turn_taken c.loop-turn.invariant c.rest.ensures.result_value c.read_turn.ensures c.in_ok-turn.was c.in-Some.is c.in-Link.is in
    omega arith
