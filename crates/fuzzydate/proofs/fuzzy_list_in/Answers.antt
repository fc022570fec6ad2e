use Rattle.std.specs.Prelude.{length}
use Rattle.std.proofs.Common.{◌∙◌}
use Rattle.calendar.specs.Moments.{moment_in}
use Rattle.fuzzydate.specs.Called.{list_in}
use Rattle.fuzzydate.proofs.ListNumbers.{listed}
use Rattle.fuzzydate.proofs.WrittenNumbers.{Coded, coded}
use Rattle.fuzzydate.proofs.fuzzy_list_in.Goals as goal
use Rattle.fuzzydate.proofs.fuzzy_list_in.Goals.{After-list_in}

-- what the code's answer says
coded_of : (c : After-list_in) → Coded (list_in c.args.rule.now (moment_in c.args.start.now) (length c.args.moments.now)) c.list_in.result
coded_of c = rw (← c.into.ensures) (coded (λ l p. p) (listed c.args.rule.now c.into.result (length c.args.moments.now)) c.list_in.ensures.value)

pub written-requires : goal.written-requires
written-requires c = (coded_of (goal.at.written-requires c).After-list_in).few

pub returns-clause-value : goal.returns-clause-value
returns-clause-value c = c.written.ensures ∙ (coded_of (goal.at.returns-clause-value c).After-list_in).says
