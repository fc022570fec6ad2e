-- "List occurrences into a lent buffer, in order, up to its room; the answer is their count, the rest of it as before."
use Rattle.std.specs.Prelude.{ℕ, ◌/◌, List, [], ◌∷◌, ◌++◌, take}
use Rattle.std.proofs.lemmas.List.Edits.{sets}
use Rattle.refusals.specs.Answers.{Answer, given, refused, and_then}
use Rattle.calendar.specs.Moments.{moment_numbers, seven, at_day}
use Rattle.calendar.specs.declared.moments.Moment.{Moment}
use Rattle.rules.specs.declared.Rule.{Rule}
use Rattle.repeats.specs.Occurrences.{days_of}

-- a row for each day: the seven numbers of the moment at the start's time of day
abbrev pub rows : Moment → List ℕ → List ℕ
rows t [] = []
rows t (n ∷ l) = seven (at_day n t) ++ rows t l

-- the days that are listed: as many as so many numbers have room for
abbrev pub list_of : Rule → Moment → ℕ → Answer (List ℕ)
list_of r t size = and_then (days_of r t) (λ l. given (take (size / moment_numbers) l))

-- the lent buffer: the rows at its front and all else as before, or, refused, "nothing is written"
abbrev pub rows_after : Moment → List ℕ → Answer (List ℕ) → List ℕ
rows_after t before (given l) = sets before 0 (rows t l)
rows_after t before (refused r) = before
