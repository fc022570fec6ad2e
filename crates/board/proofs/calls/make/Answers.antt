use Rattle.board.specs.Boards.{make_of}
use Rattle.board.proofs.calls.make.Goals as goal

pub returns-then-not-valid : goal.returns-then-not-valid
unfolding make_of
returns-then-not-valid c =
    let valid = c.valid in
    record { value = (λ ready keys. rw (← valid.ensures, c.if-not-valid.true)); state_after = λ ready keys. rw (← valid.ensures, c.if-not-valid.true) }

pub returns : goal.returns
unfolding make_of
returns c =
    let valid = c.valid in
    let taken = c.if-not-valid.false in
    record { value = (λ ready keys. rw (← valid.ensures, taken)); state_after = λ ready keys. rw (← valid.ensures, taken, c.put_state.ensures) }
