-- What is read of lexemes does not depend on how many digits their runs had; of a date this holds in the first reading.
use mathlib.Core.Path.{◌≡◌, refl}
use mathlib.Core.Bool.{true, false}
use mathlib.Core.List.{List}
use Prim.Native.Nat.{ℕ, ◌+◌, ◌-◌, ◌≤◌}
use native.Mathlib.Omega.{arith}
use lib.Dec.{ltb}
use lib.ListN.{drop, length-map}
use borrow.Author.Tests.{lt-ltb}
use Rattle.lexer.specs.Lexemes.{Monday, Sunday, January, December, Dash, Dot, Slash, NUM, value_of}
use Rattle.lexer.specs.declared.reading.Reading.TheVariants.{First}
use Rattle.numbers.specs.Slices.{get, within}
use Rattle.numbers.specs.Numbers.{num_of}
use Rattle.numbers.specs.Written.{plain, plain_of}
use Rattle.numbers.proofs.Plain.{plain_cases, same_plain, not-word, not_within, get_plain, eqb-plain, at_plain, drop-plain, again_plain, num_unread}
use Rattle.dates.specs.Parsed.{Parsed, is, nothing, pick, and_then, parsed_number}
use Rattle.dates.specs.Units.{is_article, unit_of, month_of, weekday_of, relative_specifier_of}
use Rattle.dates.specs.Durations.{Duration, specific_of, article_of, concrete_of, duration_turn, duration_of}
use Rattle.dates.specs.Times.{minute_of, half_of, clock_of, time_of}
use Rattle.dates.specs.declared.date.Date.{Date}
use Rattle.dates.specs.Dates.{named_day_of, day_month_year_of, year_of, month_day_of, is_delim, behind_second_of, delimited_of, date_of}
use Rattle.dates.proofs.LexemesTaken.{num_took}
use Rattle.dates.proofs.Durations.{then_same}

-- a number, of which the digits are not read
number_plain : (l : List ℕ) → parsed_number (num_of First (plain_of l)) ≡ parsed_number (num_of First l)
number_plain l = num_unread parsed_number (λ a. refl) First l

-- an article
article_plain : (l : List ℕ) → is_article (plain_of l) ≡ is_article l
unfolding is_article
article_plain l = simp (get_plain, eqb-plain)

-- a unit
pub unit_plain : (l : List ℕ) → unit_of (plain_of l) ≡ unit_of l
unfolding unit_of
unit_plain l = simp (get_plain, eqb-plain)

-- a word of a range, by its code
range_plain : (lo hi : ℕ) → ltb hi NUM ≡ true → (f : ℕ → ℕ) (x : ℕ)
    → pick (within lo (plain x) hi) (is (f (plain x)) 1) nothing ≡ pick (within lo x hi) (is (f x) 1) nothing
range_plain lo hi h f x = same_plain (λ y. pick (within lo y hi) (is (f y) 1) nothing) nothing (λ y a. rw (not_within lo y hi h a)) x

-- a month
month_plain : (l : List ℕ) → month_of (plain_of l) ≡ month_of l
unfolding month_of
month_plain l = rw (get_plain l 0) (range_plain January December refl (λ y. y - January + 1) (get l 0))

-- a weekday
pub weekday_plain : (l : List ℕ) → weekday_of (plain_of l) ≡ weekday_of l
unfolding weekday_of
weekday_plain l = rw (get_plain l 0) (range_plain Monday Sunday refl (λ y. y - Monday) (get l 0))

-- a relative specifier
pub specifier_plain : (l : List ℕ) → relative_specifier_of (plain_of l) ≡ relative_specifier_of l
unfolding relative_specifier_of
specifier_plain l = simp (get_plain, eqb-plain)

-- a number and a unit
specific_plain : (l : List ℕ) → specific_of First (plain_of l) ≡ specific_of First l
unfolding specific_of
specific_plain l = simp (number_plain, drop-plain, unit_plain)

-- an article and a unit
article_unit_plain : (l : List ℕ) → article_of (plain_of l) ≡ article_of l
unfolding article_of
article_unit_plain l = simp (article_plain, drop-plain, unit_plain)

-- a part of a duration
concrete_plain : (l : List ℕ) → concrete_of First (plain_of l) ≡ concrete_of First l
unfolding concrete_of
concrete_plain l = simp (specific_plain, article_unit_plain)

-- a part of a duration and what D reads behind it
duration_turn_plain : (D : List ℕ → Parsed Duration) → ((m : List ℕ) → D (plain_of m) ≡ D m)
    → (l : List ℕ) → duration_turn First D (plain_of l) ≡ duration_turn First D l
unfolding duration_turn
duration_turn_plain D same l = simp (concrete_plain, at_plain, drop-plain, same)

-- a duration
pub duration_plain : (l : List ℕ) → duration_of First (plain_of l) ≡ duration_of First l
unfolding duration_of
duration_plain l = again_plain nothing (duration_turn First) ◌≡◌ refl duration_turn_plain l

-- a minute
minute_plain : (l : List ℕ) → minute_of First (plain_of l) ≡ minute_of First l
unfolding minute_of
minute_plain l = simp (at_plain, drop-plain, number_plain)

-- the half of the day
half_plain : (hour minute t : ℕ) (l : List ℕ) → half_of hour minute t (plain_of l) ≡ half_of hour minute t l
unfolding half_of
half_plain hour minute t l = simp at_plain

-- a time in numbers
clock_plain : (l : List ℕ) → clock_of First (plain_of l) ≡ clock_of First l
unfolding clock_of
clock_plain l = simp (number_plain, drop-plain, minute_plain, half_plain)

-- a time
pub time_plain : (l : List ℕ) → time_of First (plain_of l) ≡ time_of First l
unfolding time_of
time_plain l = simp (at_plain, clock_plain)

-- a day by its name
named_plain : (l : List ℕ) → named_day_of (plain_of l) ≡ named_day_of l
unfolding named_day_of
named_plain l = simp at_plain

-- day, month and year
day_month_year_plain : (l : List ℕ) → day_month_year_of First (plain_of l) ≡ day_month_year_of First l
unfolding day_month_year_of
day_month_year_plain l = simp (number_plain, drop-plain, month_plain)

-- a year behind month and day
year_plain : (l : List ℕ) → year_of First (num_of First (plain_of l)) ≡ year_of First (num_of First l)
year_plain l = num_unread (year_of First) (λ a. refl) First l

-- month and day, with or without a year
month_day_plain : (month : ℕ) (l : List ℕ) → month_day_of First month (plain_of l) ≡ month_day_of First month l
unfolding month_day_of
month_day_plain month l = simp (drop-plain, number_plain, year_plain)

-- what follows the second number, behind a delimiter that is a word
behind_plain : (delim : ℕ) → ltb delim NUM ≡ true → (num1 num2 t : ℕ) (l : List ℕ)
    → behind_second_of First delim num1 num2 t (plain_of l) ≡ behind_second_of First delim num1 num2 t l
unfolding behind_second_of
behind_plain delim h num1 num2 t l = simp (length-map, at_plain l t delim h, drop-plain, number_plain)

-- a literal is no delimiter
not-delim : (y : ℕ) → NUM ≤ y → is_delim y ≡ false
unfolding is_delim
not-delim y a = simp (not-word y Slash refl a, not-word y Dash refl a, not-word y Dot refl a)

-- what follows the first number, which ends at t, with x for the delimiter
abbrev behind_first : ℕ → ℕ → List ℕ → ℕ → Parsed Date
behind_first num1 t l x =
    pick (is_delim x) (and_then (parsed_number (num_of First (drop (t + 1) l))) (λ num2 u. behind_second_of First x num1 num2 (t + 1 + u) l)) nothing

-- the same of plain lexemes
first_plain : (num1 t : ℕ) (l : List ℕ) (x : ℕ) → behind_first num1 t (plain_of l) (plain x) ≡ behind_first num1 t l x
first_plain num1 t l x =
    plain_cases (λ y. behind_first num1 t (plain_of l) y ≡ behind_first num1 t l x) x
    (λ h. simp (drop-plain, number_plain, behind_plain x (lt-ltb x NUM h)))
    (λ h. rw (not-delim x h, not-delim (NUM + value_of x) (omega arith)))

-- a date in numbers
delimited_plain : (l : List ℕ) → delimited_of First (plain_of l) ≡ delimited_of First l
unfolding delimited_of
delimited_plain l =
    simp (number_plain, get_plain)
    (then_same (parsed_number (num_of First l)) _ _ (num_took First l) (λ num1 t a b. first_plain num1 t l (get l t)))

-- a date
pub date_plain : (l : List ℕ) → date_of First (plain_of l) ≡ date_of First l
unfolding date_of
date_plain l = simp (named_plain, day_month_year_plain, month_plain, month_day_plain, delimited_plain)
