use native.Mathlib.Omega.{arith}
use Rattle.std.specs.Prelude.{length}
use Rattle.std.proofs.Common.{◌∙◌}
use Rattle.stamp.specs.Stamps.{written_of}
use Rattle.stamp.proofs.Writings.{text_short, writing}
use Rattle.fuzzydate.specs.Called.{stamp_in}
use Rattle.fuzzydate.proofs.WrittenNumbers.{Coded, coded}
use Rattle.fuzzydate.proofs.fuzzy_write_stamp.Goals as goal
use Rattle.fuzzydate.proofs.fuzzy_write_stamp.Goals.{After-write_stamp}

-- what the code's answer says
coded_of : (c : After-write_stamp) → Coded (written_of (stamp_in c.args.stamp.now) (length c.args.text.now)) c.write_stamp.result
coded_of c =
    let st = c.stamp_in in
    rw (← st.ensures)
    (coded (λ text p. rw (← p.is) (omega (arith, text_short st.result))) (writing st.result (length c.args.text.now)) c.write_stamp.ensures.value)

pub written-requires : goal.written-requires
written-requires c = (coded_of (goal.at.written-requires c).After-write_stamp).few

pub returns-clause-value : goal.returns-clause-value
returns-clause-value c = c.written.ensures ∙ (coded_of (goal.at.returns-clause-value c).After-write_stamp).says
