use Rattle.std.proofs.Common.{ap, ◌∙◌}
use Rattle.fuzzydate.specs.Called.{done_code}
use Rattle.fuzzydate.proofs.BoardNumbers.{remove_code}
use Rattle.fuzzydate.proofs.fuzzy_board_remove_in.Goals as goal

pub returns : goal.returns
returns c =
    record {
      value = λ ready. c.done.ensures ∙ ap done_code (c.remove.ensures.value ready) ∙ remove_code _ _;
      state_after = c.remove.ensures.state_after;
    }
