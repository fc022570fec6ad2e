use borrow.Author.Tests.{eq-eqb, ne_eqb}
use Rattle.board.specs.Boards.{head_of}
use Rattle.board.proofs.calls.head.Goals as goal

pub returns-then-count-eq0 : goal.returns-then-count-eq0
unfolding head_of
returns-then-count-eq0 c = λ ready lengths. rw (← c.count.ensures.0, eq-eqb _ _ c.if-count-eq0.true)

pub returns : goal.returns
unfolding head_of
returns c = λ ready lengths. rw (← c.count.ensures.0, ne_eqb _ _ c.if-count-eq0.false) c.earliest.ensures
