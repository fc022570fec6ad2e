use mathlib.Core.Path.{sym, ap, ◌∙◌}
use Rattle.std.specs.Prelude.{Some, Ok}
use Rattle.phrase.specs.DateTimes.{date_time_of}
use Rattle.phrase.proofs.Outlining.{kept_left, kept_all}
use Rattle.phrase.proofs.date_time.read_outline.Goals as goal

pub returns-in-Some : goal.returns-in-Some
returns-in-Some c =
    let a = c.args in
    let read = rw (c.in_ok-read.was, c.in-Some.is) at c.read_date_time.ensures in
    ap (λ o. Ok (Some o)) (c.bare.ensures a.reading) ∙ sym (kept_left a.reading a.l.now (date_time_of a.reading a.l.now) a.n read c.if-o-n.true)

pub returns-in_default : goal.returns-in_default
returns-in_default c =
    let a = c.args in
    let read = rw (c.in_ok-read.was, c.in-Some.is) at c.read_date_time.ensures in
    sym (kept_all a.reading a.l.now (date_time_of a.reading a.l.now) a.n read c.if-o-n.false)
