-- A step as numbers: its kind, its form within the kind, and up to three numbers; those that it does not need are 0.
use Rattle.std.specs.Prelude.{ℕ, ◌+◌, ◌*◌, ◌/◌, ◌%◌, Bool, true, false, cond, List, [], ◌∷◌, eqb}
use Rattle.dates.specs.declared.date.Date.{Date}
use Rattle.dates.specs.declared.date.Date.TheVariants.{YearMonthNumDay, MonthNumDayYear, DayMonthYear, MonthDayYear}
use Rattle.dates.specs.declared.date.Date.TheVariants.{MonthNumDay, MonthDay, Today, Tomorrow, Yesterday, Empty}
use Rattle.dates.specs.declared.time.Time.{Time}
use Rattle.dates.specs.declared.time.Time.TheVariants.{HourMin, HourMinAM, HourMinPM, Empty as NowsTime}
use Rattle.dates.specs.declared.units.RelativeSpecifier.{RelativeSpecifier}
use Rattle.dates.specs.declared.units.RelativeSpecifier.TheVariants.{This, Next, Last}
use Rattle.steps.specs.declared.plan.Start.{Start}
use Rattle.steps.specs.declared.plan.Start.TheVariants.{Now, Senseless, OnDate, InWeek, FromToday}
use Rattle.steps.specs.declared.plan.Move.{Move}
use Rattle.steps.specs.declared.plan.Move.TheVariants.{Minutes, Months, Years, BackTo, ForwardTo}
use Rattle.steps.specs.declared.plan.Step.{Step}
use Rattle.steps.specs.declared.plan.Step.TheVariants.{From, By, AtTime}
use Rattle.records.specs.declared.words.Words.{Words}

-- kind, form and three numbers
abbrev pub words : ℕ → ℕ → ℕ → ℕ → ℕ → Words
words k f a b c = record { kind = k; form = f; a = a; b = b; c = c }

-- a date rule: its form is its place in `enum Date`
abbrev pub date_words : Date → Words
date_words (YearMonthNumDay y m d) = words 3 0 y m d
date_words (MonthNumDayYear m d y) = words 3 1 m d y
date_words (DayMonthYear d m y) = words 3 2 d m y
date_words (MonthDayYear m d y) = words 3 3 m d y
date_words (MonthNumDay m d) = words 3 4 m d 0
date_words (MonthDay m d) = words 3 5 m d 0
date_words Today = words 3 6 0 0 0
date_words Tomorrow = words 3 7 0 0 0
date_words Yesterday = words 3 8 0 0 0
date_words Empty = words 3 9 0 0 0

-- a weekday of a week: this, the next or the last one
abbrev pub week_words : RelativeSpecifier → ℕ → Words
week_words This w = words 4 0 w 0 0
week_words Next w = words 4 1 w 0 0
week_words Last w = words 4 2 w 0 0

-- a start
abbrev pub start_words : Start → Words
start_words Now = words 1 0 0 0 0
start_words Senseless = words 2 0 0 0 0
start_words (OnDate d) = date_words d
start_words (InWeek s w) = week_words s w
start_words (FromToday w) = words 5 0 w 0 0

-- a direction: on 0, back 1
abbrev pub direction : Bool → ℕ
direction false = 0
direction true = 1

-- what one number holds: 2 ^ 32
abbrev pub wide : ℕ
wide = 4294967296

-- a move; minutes are two numbers, the low one first
abbrev pub move_words : Move → Words
move_words (Minutes back k) = words 6 (direction back) (k % wide) (k / wide) 0
move_words (Months back k) = words 7 (direction back) k 0 0
move_words (Years back k) = words 8 (direction back) k 0 0
move_words (BackTo w) = words 9 0 w 0 0
move_words (ForwardTo w) = words 11 0 w 0 0

-- a time of day: now's, or stated, without a half of the day, am or pm
abbrev pub time_words : Time → Words
time_words NowsTime = words 10 0 0 0 0
time_words (HourMin h m) = words 10 1 h m 0
time_words (HourMinAM h m) = words 10 2 h m 0
time_words (HourMinPM h m) = words 10 3 h m 0

-- a step
abbrev pub words_of : Step → Words
words_of (From s) = start_words s
words_of (By m) = move_words m
words_of (AtTime t) = time_words t

-- a number and its value
pub record Row (A : Type 0) : Type 0 where
  pub number : ℕ
  pub value : A

-- a row of a table
abbrev pub row : {A : Type 0} → ℕ → A → Row A
row k x = record { number = k; value = x }

-- the value of a number in a table, and another one where it has none
abbrev pub look : {A : Type 0} → ℕ → List (Row A) → A → A
look k [] none = none
look k (r ∷ rs) none = cond (eqb k r.number) r.value (look k rs none)

-- the way back: a date by its form
abbrev pub date_from : ℕ → ℕ → ℕ → ℕ → Date
date_from f a b c =
    look f
    (row 0 (YearMonthNumDay a b c) ∷ row 1 (MonthNumDayYear a b c) ∷ row 2 (DayMonthYear a b c) ∷ row 3 (MonthDayYear a b c)
    ∷ row 4 (MonthNumDay a b) ∷ row 5 (MonthDay a b) ∷ row 6 Today ∷ row 7 Tomorrow ∷ row 8 Yesterday ∷ [])
    Empty

-- a specifier by its form
abbrev pub specifier_from : ℕ → RelativeSpecifier
specifier_from f = look f (row 0 This ∷ row 1 Next ∷ []) Last

-- a time of day by its form
abbrev pub time_from : ℕ → ℕ → ℕ → Time
time_from f a b = look f (row 1 (HourMin a b) ∷ row 2 (HourMinAM a b) ∷ row 3 (HourMinPM a b) ∷ []) NowsTime

-- the only step that may have these numbers, by its kind
unfoldable pub step_from : Words → Step
step_from w =
    look w.kind
    (row 2 (From Senseless)
    ∷ row 3 (From (OnDate (date_from w.form w.a w.b w.c)))
    ∷ row 4 (From (InWeek (specifier_from w.form) w.a))
    ∷ row 5 (From (FromToday w.a))
    ∷ row 6 (By (Minutes (eqb w.form 1) (w.a + wide * w.b)))
    ∷ row 7 (By (Months (eqb w.form 1) w.a))
    ∷ row 8 (By (Years (eqb w.form 1) w.a))
    ∷ row 9 (By (BackTo w.a))
    ∷ row 10 (AtTime (time_from w.form w.a w.b))
    ∷ row 11 (By (ForwardTo w.a))
    ∷ [])
    (From Now)
