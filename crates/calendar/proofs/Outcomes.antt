-- Which outcomes are valid: a moment of the calendar, and every refusal. And what follows an outcome.
use mathlib.Core.Path.{◌≡◌, refl, ap, subst}
use Prim.Native.Nat.{ℕ}
use native.Mathlib.Omega.{arith}
use Rattle.calendar.specs.Gregorian.{IsDate}
use Rattle.calendar.specs.Moments.{IsTime, IsMoment, Reach, moment, refused, reached_of, Valid, and_then, with_date, with_time}
use Rattle.calendar.specs.declared.moments.Moment.{Moment}
use Rattle.refusals.specs.declared.Reason.{Reason}
use Rattle.std.specs.Prelude.{Result, Ok}

-- a moment of the calendar
pub moment_valid : {t : Moment} → IsMoment t → Valid (moment t)
moment_valid {t} v = record { valid = λ u e. let same : t ≡ u = cc in subst IsMoment same v }

-- a date of the calendar at a moment's time of day
pub date_valid : {t : Moment} {y m d : ℕ} → IsMoment t → IsDate y m d → Valid (moment (with_date y m d t))
date_valid v w = moment_valid (record { date = w; time = v.time })

-- a time of day on a moment's date
pub time_valid : {t : Moment} {h m s ms : ℕ} → IsMoment t → IsTime h m s ms → Valid (moment (with_time h m s ms t))
time_valid v w = moment_valid (record { date = v.date; time = w })

-- a refusal
pub refused_valid : (k : Reason) → Valid (refused k)
refused_valid k = record { valid = λ u e. let z : ◌≡◌ {A = ℕ} 0 1 = cc in absurd (omega arith) }

-- a moment that code takes out of a valid answer is one of the calendar
pub at_moment : {r : Result Moment Reason} {t : Moment} → Valid (reached_of r) → r ≡ Ok t → IsMoment t
at_moment v e = v.valid _ (ap reached_of e)

-- what follows is the same where it is the same from what was reached
pub then_same : {A B : Type 0} (o : Reach A) (f g : A → Reach B) → ((x : A) → o ≡ moment x → f x ≡ g x) → and_then o f ≡ and_then o g
then_same (moment x) f g e = e x refl
then_same (refused k) f g e = refl

-- staying where it led changes nothing
pub then_moment : {A : Type 0} (o : Reach A) → and_then o moment ≡ o
then_moment (moment x) = refl
then_moment (refused k) = refl

-- of three steps the last two may be taken together
pub then_assoc : {A B C : Type 0} (o : Reach A) (f : A → Reach B) (g : B → Reach C) → and_then (and_then o f) g ≡ and_then o (λ x. and_then (f x) g)
then_assoc (moment x) f g = refl
then_assoc (refused k) f g = refl
