-- Reading 1's answer to lexemes does not depend on how many digits their runs had.
use mathlib.Core.Path.{◌≡◌, refl, sym, ap, ◌∙◌, ap₂, fun_ext}
use mathlib.Core.List.{List}
use Prim.Native.Nat.{ℕ}
use lib.ListN.{length, length-map}
use Rattle.lexer.specs.Lex.{Item, codes_of, starts_of}
use Rattle.lexer.specs.declared.reading.Reading.TheVariants.{First}
use Rattle.numbers.specs.Written.{plain_of}
use Rattle.numbers.proofs.Plain.{at_plain, drop-plain, again_plain}
use Rattle.dates.specs.Parsed.{Parsed, nothing, and_then}
use Rattle.dates.specs.Durations.{Duration}
use Rattle.dates.proofs.Plain.{duration_plain, time_plain}
use Rattle.expressions.proofs.Plain.{date_expr_plain}
use Rattle.phrase.specs.Tree.{DateTime}
use Rattle.phrase.specs.DateTimes.{Turn, whole, ago, link, time_behind_of, with_duration_of, timed_turn_of, undated_turn_of, turn_of, again_of, date_time_step, date_time_of}
use Rattle.phrase.specs.Read.{read_items}

-- a time behind a date expression
time_behind_plain : (t : ℕ) (l : List ℕ) → time_behind_of First t (plain_of l) ≡ time_behind_of First t l
unfolding time_behind_of
time_behind_plain t l = simp (at_plain, drop-plain, time_plain)

-- what follows a duration
with_duration_plain : (dur : Duration) (t : ℕ) (l : List ℕ) → with_duration_of dur t (plain_of l) ≡ with_duration_of dur t l
unfolding with_duration_of
with_duration_plain dur t l = simp at_plain

-- a time, with or without a date expression behind it
timed_plain : (l : List ℕ) → timed_turn_of First (plain_of l) ≡ timed_turn_of First l
unfolding timed_turn_of
timed_plain l = simp (time_plain, at_plain, drop-plain, date_expr_plain)

-- from the duration on
undated_plain : (l : List ℕ) → undated_turn_of First (plain_of l) ≡ undated_turn_of First l
unfolding undated_turn_of
undated_plain l = simp (duration_plain, with_duration_plain, timed_plain)

-- one turn
turn_plain : (l : List ℕ) → turn_of First (plain_of l) ≡ turn_of First l
unfolding turn_of
turn_plain l = simp (at_plain, date_expr_plain, time_behind_plain, undated_plain)

module _ (D : List ℕ → Parsed DateTime) (same : (m : List ℕ) → D (plain_of m) ≡ D m) (l : List ℕ) where
  -- what D reads behind a turn
  again_of_plain : (x : Turn) (t : ℕ) → again_of D (plain_of l) x t ≡ again_of D l x t
  again_of_plain (whole x) t = refl
  again_of_plain (ago dur) t = refl
  again_of_plain (link back dur) t = simp (drop-plain, same)

  -- a turn and what D reads behind it
  step_plain : date_time_step First D (plain_of l) ≡ date_time_step First D l
  unfolding date_time_step
  step_plain = ap₂ and_then (turn_plain l) (fun_ext (λ x. fun_ext (again_of_plain x)))

-- a datetime
date_time_plain : (l : List ℕ) → date_time_of First (plain_of l) ≡ date_time_of First l
unfolding date_time_of
date_time_plain l = again_plain nothing (date_time_step First) ◌≡◌ refl step_plain l

-- reading 1's answer to lexemes does not depend on how many digits their runs had
pub digits_unread : (l m : List ℕ) → plain_of l ≡ plain_of m → date_time_of First l ≡ date_time_of First m
digits_unread l m same = sym (date_time_plain l) ∙ ap (date_time_of First) same ∙ date_time_plain m

-- nor does its answer to a phrase of n bytes, where the lexemes begin at the same places
pub reading_one_unread : (n : ℕ) (items others : List Item)
    → starts_of items ≡ starts_of others → plain_of (codes_of items) ≡ plain_of (codes_of others) → read_items First n items ≡ read_items First n others
reading_one_unread n items others starts codes =
    let count : length items ≡ length others = sym (length-map items _) ∙ ap length starts ∙ length-map others _ in
    rw (digits_unread (codes_of items) (codes_of others) codes, count, starts)
