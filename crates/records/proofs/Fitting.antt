-- The numbers of a step that fit their fields fit into the bytes of a record.
use Prim.Native.Nat.{ℕ, ◌<◌}
use native.Mathlib.Omega.{arith}
use Rattle.dates.proofs.Small.{Small, SmallDate, SmallTime}
use Rattle.dates.specs.declared.date.Date.{Date}
use Rattle.dates.specs.declared.date.Date.TheVariants.{YearMonthNumDay, MonthNumDayYear, DayMonthYear, MonthDayYear}
use Rattle.dates.specs.declared.date.Date.TheVariants.{MonthNumDay, MonthDay, Today, Tomorrow, Yesterday, Empty}
use Rattle.dates.specs.declared.time.Time.{Time}
use Rattle.dates.specs.declared.time.Time.TheVariants.{HourMin, HourMinAM, HourMinPM, Empty as NowsTime}
use Rattle.dates.specs.declared.units.RelativeSpecifier.{RelativeSpecifier}
use Rattle.dates.specs.declared.units.RelativeSpecifier.TheVariants.{This, Next, Last}
use Rattle.steps.proofs.Small.{SmallStart, SmallStep}
use Rattle.steps.specs.declared.plan.Start.{Start}
use Rattle.steps.specs.declared.plan.Start.TheVariants.{Now, Senseless, OnDate, InWeek, FromToday}
use Rattle.steps.specs.declared.plan.Move.TheVariants.{Minutes, Months, Years, BackTo, ForwardTo}
use Rattle.steps.specs.declared.plan.Step.{Step}
use Rattle.steps.specs.declared.plan.Step.TheVariants.{From, By, AtTime}
use Rattle.records.specs.Words.{wide, words_of, start_words, date_words, week_words, time_words}
use Rattle.records.specs.declared.words.Words.{Words}

-- 32 bits a number, and 64 for a joined fixed length
abbrev pub Fits : Step → Type 0
Fits s = SmallStep 18446744073709551615 s

-- three numbers of four bytes
abbrev InBytes : Words → Type 0
InBytes w = (w.a < wide) × (w.b < wide) × (w.c < wide)

date_fits : (d : Date) → SmallDate d → InBytes (date_words d)
date_fits (YearMonthNumDay y m d) h = omega arith
date_fits (MonthNumDayYear m d y) h = omega arith
date_fits (DayMonthYear d m y) h = omega arith
date_fits (MonthDayYear m d y) h = omega arith
date_fits (MonthNumDay m d) h = omega arith
date_fits (MonthDay m d) h = omega arith
date_fits Today h = omega arith
date_fits Tomorrow h = omega arith
date_fits Yesterday h = omega arith
date_fits Empty h = omega arith

week_fits : (s : RelativeSpecifier) (w : ℕ) → Small w → InBytes (week_words s w)
week_fits This w h = omega arith
week_fits Next w h = omega arith
week_fits Last w h = omega arith

time_fits : (t : Time) → SmallTime t → InBytes (time_words t)
time_fits NowsTime h = omega arith
time_fits (HourMin a b) h = omega arith
time_fits (HourMinAM a b) h = omega arith
time_fits (HourMinPM a b) h = omega arith

start_fits : (s : Start) → SmallStart s → InBytes (start_words s)
start_fits Now h = omega arith
start_fits Senseless h = omega arith
start_fits (OnDate d) h = date_fits d h
start_fits (InWeek s w) h = week_fits s w h
start_fits (FromToday w) h = omega arith

-- every number of a step
pub in_bytes : (s : Step) → Fits s → InBytes (words_of s)
in_bytes (From s) h = start_fits s h.numbers
in_bytes (By (Minutes back k)) h = omega arith
in_bytes (By (Months back k)) h = omega arith
in_bytes (By (Years back k)) h = omega arith
in_bytes (By (BackTo w)) h = omega arith
in_bytes (By (ForwardTo w)) h = omega arith
in_bytes (AtTime t) h = time_fits t h.numbers
