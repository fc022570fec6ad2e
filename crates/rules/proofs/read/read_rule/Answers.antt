-- `rules::read::read_rule` meets its contract. The loop's invariant: what the draft and the parts that are left say is what all say. Assumes nothing.
use Rattle.std.proofs.Common.{[], ◌∷◌, ◌≡◌, ◌<◌, length, get_or, ◌∙◌, length-append, add-one, refl, rules, tests}
use Prim.Native.Nat.{suc}
use lib.Seq.{drop-length}
use Rattle.rules.specs.Cut.{pieces}
use Rattle.rules.specs.Rules.{read_rule}
use Rattle.rules.proofs.Cuts.{next_piece, last_piece, behind_first}
use Rattle.rules.proofs.Readings.{begun_on, begun_none, part_on, part_none, put_none}
use Rattle.rules.proofs.read.read_rule.Goals as goal
use Rattle.rules.proofs.read.read_rule.Goals.{In_ok-next, In-Some}

-- the first piece
first : (c : In_ok-next) →
    let ps = pieces 59 c.args.text.now in
    (0 < length ps) × (c.in_ok-next.field-0.now ≡ get_or ps 0 c.in_ok-next.field-0.now)
first c =
    next_piece _ 59 c.args.text.now _ _ _ [] refl c.next.ensures.steps c.in_ok-next.was (search rules) (search rules) (λ x b q k. search (rules, tests))

-- the next one
turn : (c : In-Some) →
    let ps = pieces 59 c.args.text.now in
    let i = suc (length c.loop-part.yielded) in
    (i < length ps) × (c.in-Some.part.now ≡ get_or ps i c.in-Some.part.now)
turn c =
    next_piece _ 59 c.args.text.now c.split-parts.result _ _ (c.in_ok-next.field-0 ∷ c.loop-part.yielded)
    (behind_first _ c.split-parts.result c.next.new.self c.into_iter-part-iterator.result _ c.loop-part.yielded c.in_ok-next.field-0 c.in_ok-next.ensures.steps c.into_iter-part-iterator.ensures.into_iter_gives c.loop-part.yielded_by) c.next-in-loop-part.ensures.steps c.in-Some.is (search rules) (search rules)
    (λ x b q k. search (rules, tests))

pub loop-part-init : goal.loop-part-init
loop-part-init c =
    let at = first (goal.at.loop-part-init c).In_ok-next in
    begun_on (pieces 59 c.args.text.now) c.in_ok-next.field-0.now at.0 at.1 c.in_ok-draft.draft c.in_ok-draft.ensures

pub returns-in_err-draft : goal.returns-in_err-draft
unfolding read_rule
returns-in_err-draft c =
    let at = first (goal.at.returns-in_err-draft c).In_ok-next in
    rw (c.from_residual-in_err-draft.ensures, begun_none (pieces 59 c.args.text.now) c.in_ok-next.field-0.now at.0 at.1 c.in_err-draft.ensures)

pub loop-part-preserved : goal.loop-part-preserved
loop-part-preserved c =
    let l = c.loop-part in
    let at = turn (goal.at.loop-part-preserved c).In-Some in
    l.invariant
    ∙ rw (length-append, add-one)
    (part_on l.draft (pieces 59 c.args.text.now) (suc (length l.yielded)) c.in-Some.part.now at.0 at.1 c.in_ok-part_of.field-0 c.in_ok-draft-2.draft
    c.in_ok-part_of.ensures c.in_ok-draft-2.ensures)

pub returns-in_err-part_of : goal.returns-in_err-part_of
unfolding read_rule
returns-in_err-part_of c =
    let l = c.loop-part in
    let at = turn (goal.at.returns-in_err-part_of c).In-Some in
    rw (
      c.from_residual-in_err-part_of.ensures,
      l.invariant,
      part_none l.draft (pieces 59 c.args.text.now) (suc (length l.yielded)) c.in-Some.part.now at.0 at.1 c.in_err-part_of.ensures,
    )

pub returns-in_err-draft-2 : goal.returns-in_err-draft-2
unfolding read_rule
returns-in_err-draft-2 c =
    let l = c.loop-part in
    let at = turn (goal.at.returns-in_err-draft-2 c).In-Some in
    rw (
      c.from_residual-in_err-draft-2.ensures,
      l.invariant,
      put_none l.draft (pieces 59 c.args.text.now) (suc (length l.yielded)) c.in-Some.part.now at.0 at.1 c.in_ok-part_of.field-0 c.in_ok-part_of.ensures
          c.in_err-draft-2.ensures,
    )

pub returns : goal.returns
unfolding read_rule
returns c =
    let l = c.loop-part in
    let end : suc (length l.yielded) ≡ length (pieces 59 c.args.text.now) =
    last_piece _ 59 c.args.text.now c.split-parts.result _ _ (c.in_ok-next.field-0 ∷ l.yielded)
    (behind_first _ c.split-parts.result c.next.new.self c.into_iter-part-iterator.result _ l.yielded c.in_ok-next.field-0 c.in_ok-next.ensures.steps c.into_iter-part-iterator.ensures.into_iter_gives l.yielded_by) c.next-in-loop-part.ensures.steps c.in-None.is (search rules) (search rules)
    (λ x b q k. search (rules, tests)) in
    rw (c.rule_in.ensures, l.invariant, end, drop-length)
