use native.Mathlib.Omega.{arith}
use mathlib.Core.Path.{◌≡◌, sym, ◌∙◌}
use lib.ListN.{length}
use Prim.Native.Nat.{ℕ, ◌*◌}
use Rattle.std.specs.Prelude.{Some, None, Err}
use Rattle.std.specs.Option.{ok_or}
use Rattle.refusals.specs.declared.Reason.TheVariants.{FullBoard}
use Rattle.std.proofs.lemmas.Result.{err_from_is_err_and}
use Rattle.records.specs.Records.{encode_of}
use Rattle.records.proofs.Lists.{length-encoded}
use Rattle.board.specs.Boards.{add_of}
use Rattle.board.proofs.ReadyNumbers.{ListMade, list_made, none_made}
use Rattle.board.proofs.calls.add.Goals as goal
use Rattle.board.proofs.calls.add.Goals.{In_ok-plan, In_ok-slot}

-- what was made is a list
list_of : (c : In_ok-plan) → ListMade c.args.reading c.args.phrase.now c.in_ok-plan.plan
list_of c = list_made _ _ c.make_ready.ensures c.in_ok-plan.was

pub returns-in_err-plan : goal.returns-in_err-plan
unfolding add_of
returns-in_err-plan c =
    let p = err_from_is_err_and c.from_residual.result c.from_residual.ensures.1 in
    let refused = (none_made _ _ c.make_ready.ensures c.in_err-plan.was).is in
    record { value = rw (p.1, p.2, refused); state_value = rw refused }

pub returns-in_err-slot : goal.returns-in_err-slot
unfolding add_of
returns-in_err-slot c =
    let p = err_from_is_err_and c.from_residual-in_err-slot.result c.from_residual-in_err-slot.ensures.1 in
    let made = (list_of (goal.at.returns-in_err-slot c).In_ok-plan).is in
    let none : c.free_slot.result ≡ None = c.ok_or.ensures.ok_part ∙ rw c.in_err-slot.was in
    let said : Err c.in_err-slot.field-0.0 ≡ ok_or c.free_slot.result FullBoard = sym (c.in_err-slot.was) ∙ c.ok_or.ensures.value in
    let full : Err c.in_err-slot.field-0.0 ≡ ok_or {T = ℕ} None FullBoard = rw none at said in
    let reason : c.in_err-slot.field-0.0 ≡ FullBoard = cc in
    let free = c.free_slot.ensures.value c.args.ready.now c.args.keys.now in
    record { value = rw (p.1, p.2, reason, made, ← free, none); state_value = rw (made, ← free, none) }

-- the slot is a free one
slot_of_lem : (c : In_ok-slot) → c.free_slot.result ≡ Some c.in_ok-slot.slot
slot_of_lem c = c.ok_or.ensures.ok_part ∙ rw c.in_ok-slot.was

pub hold-requires : goal.hold-requires
hold-requires c =
    let made = list_of (goal.at.hold-requires c).In_ok-plan in
    let bounds = c.free_slot.ensures.bounds c.in_ok-slot.slot (slot_of_lem (goal.at.hold-requires c).In_ok-slot) in
    (omega (arith, made.count, made.few), bounds.0, bounds.1)

pub returns : goal.returns
unfolding add_of
returns c =
    let made = list_of (goal.at.returns c).In_ok-plan in
    let free = c.free_slot.ensures.value c.args.ready.now c.args.keys.now in
    let slot = slot_of_lem (goal.at.returns c).In_ok-slot in
    let size : length (encode_of made.list) ≡ 16 * c.in_ok-plan.plan.n = length-encoded made.list ∙ omega (arith, made.count) in
    record { value = rw (made.is, ← free, slot); state_value = rw (made.is, ← free, slot, size, ← made.plan) c.hold.ensures }
