use Rattle.std.proofs.Common.{ap, ◌∙◌}
use Rattle.fuzzydate.specs.Called.{done_code}
use Rattle.fuzzydate.proofs.BoardNumbers.{make_code}
use Rattle.fuzzydate.proofs.fuzzy_board_make_in.Goals as goal

pub returns : goal.returns
returns c =
    let at = c.into.ensures in
    record {
      value = λ ready keys. rw (← at) (c.done.ensures ∙ ap done_code (c.make.ensures.value ready keys) ∙ make_code _ _);
      state_after = rw (← at) c.make.ensures.state_after;
    }
