-- Which occurrence comes next: "the first occurrence at or after a moment".
use Rattle.std.specs.Prelude.{ℕ, ◌+◌, cond, ◌&&◌, List, ◌∷◌, [], leb, ltb, Option, Some, None, Result, Ok, Err}
use Rattle.refusals.specs.declared.Reason.{Reason}
use Rattle.refusals.specs.declared.Reason.TheVariants.{NoNext}
use Rattle.refusals.specs.Answers.{Answer, given, refused, refuse, and_then}
use Rattle.calendar.specs.Gregorian.{days}
use Rattle.calendar.specs.Moments.{day_of_moment, at_day, instant_of}
use Rattle.calendar.specs.declared.moments.Moment.{Moment}
use Rattle.rules.specs.declared.Rule.{Rule}
use Rattle.repeats.specs.Firsts.{first_from}
use Rattle.repeats.specs.Held.{one}
use Rattle.repeats.specs.Occurrences.{Repeat, time_of_day, days_of}
use Rattle.coming.specs.Counts.{count_before}

-- of days, each at the start's time of day, the first at or after the asked moment; "20 exactly if no occurrence .. is at or after the moment"
unfoldable pub first_after : Moment → Moment → List ℕ → Answer Moment
first_after t asked [] = refuse NoNext 0 0
first_after t asked (n ∷ l) = cond (leb (instant_of asked) (instant_of (at_day n t))) (given (at_day n t)) (first_after t asked l)

-- "the first entry that the full list would have there, COUNT and UNTIL counted in"; 19 as the list
unfoldable pub next_of : Rule → Moment → Moment → Answer Moment
next_of r t asked = and_then (days_of r t) (λ l. first_after t asked l)

-- The same by day numbers and closed forms, as the law `next_closed` shows.

-- the first day whose moment, at the start's time of day, is at or after the asked one
abbrev pub asked_day : Moment → Moment → ℕ
asked_day t asked = day_of_moment asked + one (ltb (time_of_day t) (time_of_day asked))

-- the first entry of a list at or after day b
unfoldable pub first_at : ℕ → List ℕ → Option ℕ
first_at b [] = None
first_at b (n ∷ l) = cond (leb b n) (Some n) (first_at b l)

-- which one comes first at or after day b, where the start s matches and lies below the limit, and COUNT c is at least 1
unfoldable pub next_day : Repeat → ℕ → ℕ → ℕ → ℕ → ℕ → Option ℕ
next_day r i s limit c b =
    cond (leb b s) (Some s)
    (cond (ltb b days && (ltb (first_from r i s b) limit && ltb (count_before r i s b) c)) (Some (first_from r i s b)) None)

-- the moment of that day, or 20
abbrev pub moment_or : Moment → Option ℕ → Answer Moment
moment_or t (Some n) = given (at_day n t)
moment_or t None = refuse NoNext 0 0

-- the code's answer: the moment, or the reason of the refusal
abbrev pub answered : Answer Moment → Result Moment Reason
answered (given t) = Ok t
answered (refused r) = Err r.reason
