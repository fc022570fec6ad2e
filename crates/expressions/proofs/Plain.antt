-- What is read of a date expression does not depend on how many digits the runs of its lexemes had, in the first reading.
use mathlib.Core.Path.{◌≡◌}
use mathlib.Core.List.{List}
use Prim.Native.Nat.{ℕ}
use Rattle.lexer.specs.declared.reading.Reading.TheVariants.{First}
use Rattle.numbers.specs.Written.{plain_of}
use Rattle.numbers.proofs.Plain.{at_plain, drop-plain}
use Rattle.dates.specs.Durations.{Duration}
use Rattle.dates.proofs.Plain.{unit_plain, weekday_plain, specifier_plain, duration_plain, date_plain}
use Rattle.expressions.specs.DateExprs.{in_tail_of, duration_tail_of, tail_of, with_duration_of}
use Rattle.expressions.specs.DateExprs.{relative_expr_of, weekday_expr_of, undated_of, date_expr_of}

-- "in" and a duration behind a date or a weekday
in_tail_plain : (l : List ℕ) → in_tail_of First (plain_of l) ≡ in_tail_of First l
unfolding in_tail_of
in_tail_plain l = simp (at_plain, drop-plain, duration_plain)

-- a duration and "ago" there
duration_tail_plain : (l : List ℕ) → duration_tail_of First (plain_of l) ≡ duration_tail_of First l
unfolding duration_tail_of
duration_tail_plain l = simp (duration_plain, at_plain, in_tail_plain)

-- all that may stand there
tail_plain : (l : List ℕ) → tail_of First (plain_of l) ≡ tail_of First l
unfolding tail_of
tail_plain l = simp (specifier_plain, drop-plain, unit_plain, duration_tail_plain)

-- what follows a duration
with_duration_plain : (duration : Duration) (t : ℕ) (l : List ℕ) → with_duration_of First duration t (plain_of l) ≡ with_duration_of First duration t l
unfolding with_duration_of
with_duration_plain duration t l = simp (at_plain, drop-plain, date_plain)

-- a relative specifier with a weekday or a unit
relative_plain : (l : List ℕ) → relative_expr_of (plain_of l) ≡ relative_expr_of l
unfolding relative_expr_of
relative_plain l = simp (specifier_plain, drop-plain, weekday_plain, unit_plain)

-- from the weekday on
weekday_expr_plain : (l : List ℕ) → weekday_expr_of First (plain_of l) ≡ weekday_expr_of First l
unfolding weekday_expr_of
weekday_expr_plain l = simp (weekday_plain, drop-plain, tail_plain, relative_plain)

-- from the duration on
undated_plain : (l : List ℕ) → undated_of First (plain_of l) ≡ undated_of First l
unfolding undated_of
undated_plain l = simp (duration_plain, with_duration_plain, weekday_expr_plain)

-- a date expression
pub date_expr_plain : (l : List ℕ) → date_expr_of First (plain_of l) ≡ date_expr_of First l
unfolding date_expr_of
date_expr_plain l = simp (date_plain, drop-plain, tail_plain, undated_plain)
