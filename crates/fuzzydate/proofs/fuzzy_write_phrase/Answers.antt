use native.Mathlib.Omega.{arith}
use Rattle.std.specs.Prelude.{length}
use Rattle.std.proofs.Common.{◌∙◌}
use Rattle.calendar.specs.Moments.{moment_in}
use Rattle.shown.specs.Phrases.{shown_of}
use Rattle.shown.proofs.Writings.{writing}
use Rattle.fuzzydate.proofs.WrittenNumbers.{Coded, coded}
use Rattle.fuzzydate.proofs.fuzzy_write_phrase.Goals as goal
use Rattle.fuzzydate.proofs.fuzzy_write_phrase.Goals.{After-write_phrase}

-- what the code's answer says
coded_of : (c : After-write_phrase) → Coded (shown_of (moment_in c.args.moment.now) (length c.args.text.now)) c.write_phrase.result
coded_of c =
    let t = c.into in
    rw (← t.ensures) (coded (λ text p. omega (arith, p.short)) (writing t.result (length c.args.text.now)) c.write_phrase.ensures.value)

pub written-requires : goal.written-requires
written-requires c = (coded_of (goal.at.written-requires c).After-write_phrase).few

pub returns-clause-value : goal.returns-clause-value
returns-clause-value c = c.written.ensures ∙ (coded_of (goal.at.returns-clause-value c).After-write_phrase).says
