use mathlib.Core.Path.{sym, ◌∙◌}
use Rattle.calendar.proofs.Dates.{date_day}
use Rattle.repeats.proofs.Begins.{begun_from, begun_late, begun_off}
use Rattle.repeats.proofs.courses.begin.Goals as goal
use Rattle.repeats.proofs.courses.begin.Goals.{else-matches-via-then-matches+else-c, else-matches-via-else-matches}

pub matches-requires : goal.matches-requires
matches-requires c = rw c.course_of-c.ensures (date_day c.requires.1.date).day

pub returns-then-c : goal.returns-then-c
returns-then-c c = begun_from _ _ _ c.course_of-c.ensures (sym c.matches.ensures ∙ c.if-matches.true) c.if-c.true

pub returns-else-matches : goal.returns-else-matches
returns-else-matches c =
    elim c.else-matches.branch [
      | else-matches-via-then-matches+else-c w ↦
          begun_late _ _ _ c.course_of-c.ensures (sym c.matches.ensures ∙ w.if-matches.true) w.if-c.false
      | else-matches-via-else-matches w ↦ begun_off _ _ _ c.course_of-c.ensures (sym c.matches.ensures ∙ w.if-matches.false)
    ]
