use Rattle.std.proofs.Common.{sym, ◌∙◌}
use Rattle.std.proofs.lemmas.Result.{err_from_is_err_and}
use Rattle.board.specs.Boards.{add_of}
use Rattle.fuzzydate.proofs.Readings.{none_ready}
use Rattle.fuzzydate.proofs.add_in.Goals as goal

pub returns-in_err-try_into : goal.returns-in_err-try_into
unfolding add_of
returns-in_err-try_into c =
    let p = err_from_is_err_and c.from_residual.result c.from_residual.ensures.1 in
    let none = none_ready c.args.reading c.args.phrase.now (sym c.try_into.ensures ∙ c.in_err-try_into.was) in
    record { value = rw (p.1, p.2, none); state_value = rw none }
