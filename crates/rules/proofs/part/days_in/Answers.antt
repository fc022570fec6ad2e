-- `rules::part::days_in` meets its contract. The loop's invariant: the bits in hand and those of the weekdays that are left are those of all. Assumes nothing.
use Rattle.std.proofs.Common.{length, sym, ◌∙◌, rules, tests, length-append}
use lib.Seq.{drop-length}
use Rattle.rules.specs.Cut.{pieces}
use Rattle.rules.specs.Days.{days_in}
use Rattle.rules.proofs.Bits.{bits_on, bits_none}
use Rattle.rules.proofs.Cuts.{next_piece, last_piece}
use Rattle.rules.proofs.part.days_in.Goals as goal

pub loop-day-preserved : goal.loop-day-preserved
loop-day-preserved c =
    let d = c.loop-day in
    let turn = next_piece _ 44 c.args.s.now _ _ _ d.yielded d.yielded_by c.next.ensures.steps c.in-Some.is (search rules) (search rules) (λ x b q k. search (rules, tests)) in
    d.invariant ∙ rw length-append (bits_on d.bits (pieces 44 c.args.s.now) (length d.yielded) c.in-Some.day.now turn.0 turn.1 c.in_ok-bits.field-0 c.in_ok-bits.ensures)

pub returns-in_err-bits : goal.returns-in_err-bits
unfolding days_in
returns-in_err-bits c =
    let d = c.loop-day in
    let turn = next_piece _ 44 c.args.s.now _ _ _ d.yielded d.yielded_by c.next.ensures.steps c.in-Some.is (search rules) (search rules) (λ x b q k. search (rules, tests)) in
    c.from_residual.ensures ∙ sym (d.invariant ∙ bits_none d.bits (pieces 44 c.args.s.now) (length d.yielded) c.in-Some.day.now turn.0 turn.1 c.in_err-bits.ensures)

pub returns : goal.returns
unfolding days_in
returns c =
    let d = c.loop-day in
    let end = last_piece _ 44 c.args.s.now _ _ _ d.yielded d.yielded_by c.next.ensures.steps c.in-None.is (search rules) (search rules) (λ x b q k. search (rules, tests)) in
    sym (d.invariant ∙ rw (end, drop-length))
