-- Every number that a reader gives is below 2 ^ 32, so that it fits a field of a record, whatever the lexemes are.
use mathlib.Core.Path.{refl}
use mathlib.Core.Bool.{Bool, true, false}
use mathlib.Core.List.{List}
use Rattle.std.specs.Prelude.{Some, None, Ok, Err}
use Prim.Native.Nat.{ℕ, ◌+◌, ◌<◌, ◌≤◌}
use native.Mathlib.Omega.{arith}
use lib.Dec.{eqb, leb, ltb}
use lib.ListN.{length, drop}
use Rattle.lexer.specs.Lexemes as lexeme
use Rattle.lexer.specs.declared.reading.Reading.{Reading}
use Rattle.numbers.specs.Slices.{get, is_at, within}
use Rattle.numbers.specs.Numbers.{num_of}
use Rattle.numbers.specs.Answers.{NumberFound, Read}
use Rattle.numbers.proofs.Again.{again_keeps}
use Rattle.numbers.proofs.NumberBounds.{num_read}
use Rattle.numbers.proofs.LexemeAt.{within_bounds}
use Rattle.dates.specs.Parsed.{Parsed, is, nothing, pick, parsed_number}
use Rattle.dates.specs.Units.{is_article, unit_of, month_of, weekday_of}
use Rattle.dates.specs.Dates.{named_day_of, day_month_year_of, year_of, comma_in, month_day_of, is_delim, pick_date, three_numbers_of, two_numbers_of}
use Rattle.dates.specs.Dates.{behind_second_of, delimited_of, date_of}
use Rattle.dates.specs.Times.{minute_of, half_of, clock_of, time_of}
use Rattle.dates.specs.Durations.{Duration, part, concat, specific_of, article_of, concrete_of, duration_turn, duration_of}
use Rattle.dates.proofs.Each.{Gives, nothing_gives, is_gives, pick_each, pick_gives, or-gives, then_each, then_gives, if_let_gives}
use Rattle.dates.proofs.Parsed.{year_keeps}
use Rattle.dates.specs.declared.date.Date.{Date}
use Rattle.dates.specs.declared.date.Date.TheVariants.{YearMonthNumDay, MonthNumDayYear, DayMonthYear, MonthDayYear}
use Rattle.dates.specs.declared.date.Date.TheVariants.{MonthNumDay, MonthDay, Today, Tomorrow, Yesterday, Empty as NoDate}
use Rattle.dates.specs.declared.time.Time.{Time}
use Rattle.dates.specs.declared.time.Time.TheVariants.{HourMin, HourMinAM, HourMinPM, Empty as NoTime}
use Rattle.dates.specs.declared.duration.Part.{Part}
use Rattle.dates.specs.declared.duration.Part.TheVariants.{Article, Specific}

-- below 2 ^ 32
abbrev pub Small : ℕ → Type 0
Small n = n < 4294967296

-- every number of a date
abbrev pub SmallDate : Date → Type 0
SmallDate (YearMonthNumDay y m d) = Small y × Small m × Small d
SmallDate (MonthNumDayYear m d y) = Small m × Small d × Small y
SmallDate (DayMonthYear d m y) = Small d × Small m × Small y
SmallDate (MonthDayYear m d y) = Small m × Small d × Small y
SmallDate (MonthNumDay m d) = Small m × Small d
SmallDate (MonthDay m d) = Small m × Small d
SmallDate Today = Unit
SmallDate Tomorrow = Unit
SmallDate Yesterday = Unit
SmallDate NoDate = Unit

-- of a time of day
abbrev pub SmallTime : Time → Type 0
SmallTime (HourMin h m) = Small h × Small m
SmallTime (HourMinAM h m) = Small h × Small m
SmallTime (HourMinPM h m) = Small h × Small m
SmallTime NoTime = Unit

-- of a part
abbrev pub SmallPart : Part → Type 0
SmallPart (Article u) = Unit
SmallPart (Specific u n) = Small n

-- of a duration
abbrev pub SmallDuration : Duration → Type 0
SmallDuration (part p) = SmallPart p
SmallDuration (concat p d) = SmallPart p × SmallDuration d

small_number : (w : NumberFound) (k n : ℕ) → Read w k n → Gives Small (parsed_number w)
small_number (Ok (Some a)) k n h = is_gives (let b = h.bounds in omega arith)
small_number (Ok None) k n h = nothing_gives
small_number (Err e) k n h = record { bounds = tt }

-- a number
num_small : (reading : Reading) (l : List ℕ) → Gives Small (parsed_number (num_of reading l))
num_small reading l = small_number (num_of reading l) 1 (length l) (num_read reading l)

-- a lexeme between two small ones
small_within : (lo x hi v : ℕ) → Small hi → (x ≤ hi → Small v) → Gives Small (pick (within lo x hi) (is v 1) nothing)
small_within lo x hi v small f = pick_each (within lo x hi) (λ e. is_gives (f (within_bounds lo x hi refl e).1)) (λ e. nothing_gives)

month_small : (l : List ℕ) → Gives Small (month_of l)
unfolding month_of
month_small l = small_within lexeme.January (get l 0) lexeme.December _ (omega arith) (λ h. omega arith)

pub weekday_small : (l : List ℕ) → Gives Small (weekday_of l)
unfolding weekday_of
weekday_small l = small_within lexeme.Monday (get l 0) lexeme.Sunday _ (omega arith) (λ h. omega arith)

-- one of three, which have no number
named_day_small : (l : List ℕ) → Gives SmallDate (named_day_of l)
unfolding named_day_of
named_day_small l =
    pick_gives (is_at l 0 lexeme.Today) (is_gives tt)
    (pick_gives (is_at l 0 lexeme.Tomorrow) (is_gives tt)
    (pick_gives (is_at l 0 lexeme.Yesterday) (is_gives tt) nothing_gives))

day_month_year_small : (reading : Reading) (l : List ℕ) → Gives SmallDate (day_month_year_of reading l)
unfolding day_month_year_of
day_month_year_small reading l =
    then_gives _ (num_small reading l) (λ day t a.
    then_gives _ (month_small (drop t l)) (λ month u b.
    then_gives _ (num_small reading (drop (t + u) l)) (λ year v c. is_gives (a, b, c))))

year_small : (reading : Reading) (l : List ℕ) → Gives Small (year_of reading (num_of reading l))
year_small reading l = year_keeps (λ p. Gives Small p) nothing_gives reading (num_of reading l) (num_small reading l)

month_day_small : (reading : Reading) (month : ℕ) (l : List ℕ) → Small month → Gives SmallDate (month_day_of reading month l)
unfolding month_day_of
month_day_small reading month l a =
    then_gives _ (num_small reading (drop 1 l)) (λ num t b.
    if_let_gives _ (year_small reading (drop (1 + t + comma_in reading l (1 + t)) l)) (λ year u c. is_gives (a, b, c)) (is_gives (a, b)))

-- `if`, of dates
pick_small : (b : Bool) (d e : Date) → SmallDate d → SmallDate e → SmallDate (pick_date b d e)
pick_small true d e g h = g
pick_small false d e g h = h

behind_second_small : (reading : Reading) (delim num1 num2 t : ℕ) (l : List ℕ) → Small num1 → Small num2 → Gives SmallDate (behind_second_of reading delim num1 num2 t l)
unfolding behind_second_of three_numbers_of two_numbers_of
behind_second_small reading delim num1 num2 t l a b =
    pick_gives (leb (length l) t) nothing_gives
    (pick_gives (is_at l t delim)
    (then_gives _ (num_small reading (drop (t + 1) l)) (λ num3 u c.
    is_gives (pick_small (ltb 1000 num1) _ _ (a, b, c) (pick_small (eqb delim lexeme.Dot) _ _ (b, a, c) (a, b, c)))))
    (is_gives (pick_small (eqb delim lexeme.Dot) _ _ (b, a) (a, b))))

delimited_small : (reading : Reading) (l : List ℕ) → Gives SmallDate (delimited_of reading l)
unfolding delimited_of
delimited_small reading l =
    then_gives _ (num_small reading l) (λ num1 t a.
    pick_gives (is_delim (get l t))
    (then_gives _ (num_small reading (drop (t + 1) l)) (λ num2 u b. behind_second_small reading (get l t) num1 num2 (t + 1 + u) l a b))
    nothing_gives)

-- a date
pub date_small : (reading : Reading) (l : List ℕ) → Gives SmallDate (date_of reading l)
unfolding date_of
date_small reading l =
    or-gives _ (named_day_small l)
    (or-gives _ (day_month_year_small reading l)
    (if_let_gives _ (month_small l) (λ month t a. month_day_small reading month l a) (delimited_small reading l)))

minute_small : (reading : Reading) (l : List ℕ) → Gives Small (minute_of reading l)
unfolding minute_of
minute_small reading l =
    pick_gives (is_at l 0 lexeme.Colon)
    (if_let_gives _ (num_small reading (drop 1 l)) (λ min t a. is_gives a) (is_gives (omega arith)))
    (is_gives (omega arith))

half_small : (hour minute t : ℕ) (l : List ℕ) → Small hour → Small minute → Gives SmallTime (half_of hour minute t l)
unfolding half_of
half_small hour minute t l a b =
    pick_gives (is_at l t lexeme.AM) (is_gives (a, b)) (pick_gives (is_at l t lexeme.PM) (is_gives (a, b)) (is_gives (a, b)))

-- a time of day
pub time_small : (reading : Reading) (l : List ℕ) → Gives SmallTime (time_of reading l)
unfolding time_of clock_of
time_small reading l =
    pick_gives (is_at l 0 lexeme.Midnight) (is_gives (omega arith))
    (pick_gives (is_at l 0 lexeme.Noon) (is_gives (omega arith))
    (then_gives _ (num_small reading l) (λ hour t a.
    then_gives _ (minute_small reading (drop t l)) (λ minute u b. half_small hour minute (t + u) l a b))))

part_small : (reading : Reading) (l : List ℕ) → Gives SmallPart (concrete_of reading l)
unfolding concrete_of specific_of article_of
part_small reading l =
    or-gives _ (then_gives _ (num_small reading l) (λ num t a. then_each (unit_of (drop t l)) _ (λ u k e. is_gives a)))
    (pick_gives (is_article l) (then_each (unit_of (drop 1 l)) _ (λ u k e. is_gives tt)) nothing_gives)

step_small : (reading : Reading) (D : List ℕ → Parsed Duration) → ((m : List ℕ) → Gives SmallDuration (D m)) → (l : List ℕ)
    → Gives SmallDuration (duration_turn reading D l)
unfolding duration_turn
step_small reading D small l =
    then_gives _ (part_small reading l) (λ d t a.
    pick_gives (is_at l t lexeme.And)
    (if_let_gives _ (small (drop (t + 1) l)) (λ dur2 u b. is_gives (a, b)) (is_gives a))
    (is_gives a))

-- a duration
pub duration_small : (reading : Reading) (l : List ℕ) → Gives SmallDuration (duration_of reading l)
unfolding duration_of
duration_small reading l = again_keeps nothing (duration_turn reading) (λ m w. Gives SmallDuration w) (λ m. nothing_gives) (step_small reading) l
