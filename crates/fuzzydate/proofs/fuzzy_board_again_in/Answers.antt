use Rattle.std.proofs.Common.{ap, ◌∙◌}
use Rattle.fuzzydate.specs.Called.{done_code}
use Rattle.fuzzydate.proofs.BoardNumbers.{again_code}
use Rattle.fuzzydate.proofs.fuzzy_board_again_in.Goals as goal

pub returns : goal.returns
returns c =
    let at = c.into.ensures in
    record {
      value = rw (← at) (c.done.ensures ∙ ap done_code c.again.ensures.value ∙ again_code _ _);
      state_after = rw (← at) c.again.ensures.state_after;
    }
