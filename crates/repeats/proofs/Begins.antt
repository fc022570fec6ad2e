-- A rule's course: what it repeats, its days, and that its start is the first of them.
use Prim.Native.Nat.{ℕ, ◌-◌, ◌≤◌, ◌<◌}
use native.Mathlib.Omega.{arith}
use mathlib.Core.Path.{◌≡◌, refl, ap, sym, ◌∙◌}
use mathlib.Core.Bool.{Bool, true, false, cond, ◌&&◌, and-eq-true_iff}
use mathlib.Core.List.{List}
use lib.Dec.{leb, ltb}
use lib.ListN.{length, take}
use lib.Seq.{take_all}
use borrow.Author.Tests.{lt-ltb, le-ltb, ltb-true}
use Rattle.std.proofs.Common.{Result, Ok, Err}
use Rattle.refusals.specs.declared.Reason.{Reason}
use Rattle.refusals.specs.declared.Reason.TheVariants.{NoStart}
use Rattle.refusals.specs.Answers.{given, refuse}
use Rattle.calendar.specs.Gregorian.{days}
use Rattle.calendar.specs.Moments.{IsMoment, day_of_moment, month_number}
use Rattle.calendar.specs.declared.moments.Moment.{Moment}
use Rattle.calendar.proofs.Dates.{in_days, date_day}
use Rattle.rules.specs.Rule.{IsBound, IsRule}
use Rattle.rules.specs.declared.Freq.{Freq}
use Rattle.rules.specs.declared.Freq.TheVariants.{Daily, Weekly, Monthly}
use Rattle.rules.specs.declared.Bound.{Bound}
use Rattle.rules.specs.declared.Bound.TheVariants.{Endless, Count, UntilDay, UntilMoment}
use Rattle.rules.specs.declared.Rule.{Rule}
use Rattle.repeats.specs.Held.{between}
use Rattle.repeats.specs.Occurrences.{Repeat, month_at, holds, repeat_by, repeat_of, time_of_day, limit_of, counted}
use Rattle.repeats.specs.Occurrences.{occurs_on, occurrences, start_fits, days_of}
use Rattle.repeats.specs.Courses.{count_of, course_of, repeat_on, repeat_in, holds_in, days_in, IsCourse, begun_of}
use Rattle.repeats.specs.declared.courses.Course.{Course}
use Rattle.repeats.proofs.Held.{held_short, one-most}

-- what a rule's course repeats is what the rule does
pub same_repeat : (r : Rule) (t : Moment) → repeat_in (course_of r t) ≡ repeat_of r t
same_repeat r t = by r.freq
  where
    by : (f : Freq) → repeat_on f (course_of r t) ≡ repeat_by f r t
    by Daily = refl
    by Weekly = refl
    by Monthly = refl

-- no rule goes past the calendar
pub limit_in : (b : Bound) (t : Moment) → IsBound b → limit_of b t ≤ days
limit_in Endless t v = omega arith
limit_in (Count n) t v = omega arith
limit_in (UntilDay y m d) t v = omega (arith, in_days v)
limit_in (UntilMoment u) t v = omega (arith, in_days v.date, one-most (leb (time_of_day t) (time_of_day u)))

-- COUNT is so many days, and none is no more than all
counted_is : (b : Bound) (l : List ℕ) → length l ≤ days → counted b l ≡ take (count_of b) l
counted_is Endless l h = sym (take_all days l h)
counted_is (Count n) l h = refl
counted_is (UntilDay y m d) l h = sym (take_all days l h)
counted_is (UntilMoment u) l h = sym (take_all days l h)

-- the days below the limit at which a rule holds
abbrev pub days_below : Rule → Moment → List ℕ
days_below r t = between (occurs_on r t) (day_of_moment t) (limit_of r.bound t)

-- are no more than the calendar's
pub days_few : (r : Rule) (t : Moment) → IsRule r → length (days_below r t) ≤ days
days_few r t v =
    let short = held_short (occurs_on r t) (day_of_moment t) (limit_of r.bound t - day_of_moment t) in
    omega (arith, limit_in r.bound t v.bound)

-- a rule's occurrences are the first of them
pub occurrences_are : (r : Rule) (t : Moment) → IsRule r → occurrences r t ≡ take (count_of r.bound) (days_below r t)
unfolding occurrences
occurrences_are r t v = counted_is r.bound (days_below r t) (days_few r t v)

-- and its course's days
pub same_list : (r : Rule) (t : Moment) → IsRule r → occurrences r t ≡ days_in (course_of r t)
same_list r t v =
    occurrences_are r t v
    ∙ ap (λ (p : Repeat). take (count_of r.bound) (between (holds p r.interval (day_of_moment t)) (day_of_moment t) (limit_of r.bound t)))
    (sym (same_repeat r t))

month_is : (t : Moment) → IsMoment t → month_number t ≡ month_at (day_of_moment t)
unfolding month_at
month_is t v = let s = date_day v.date in rw (s.year, s.month)

-- the course of a rule whose start fits
pub is_course : (r : Rule) (t : Moment) → IsRule r → IsMoment t → start_fits r t ≡ true → IsCourse (course_of r t)
unfolding start_fits
is_course r t v m e =
    let both = (and-eq-true_iff (occurs_on r t (day_of_moment t)) (ltb (day_of_moment t) (limit_of r.bound t))).0 e in
    record {
      least = v.least;
      most = v.most;
      month = month_is t m;
      matches = rw (same_repeat r t) both.0;
      begins = ltb-true _ _ both.1;
      ends = limit_in r.bound t v.bound;
    }

-- the two tests of a start
module _ (r : Rule) (t : Moment) (c : Course) (e : c ≡ course_of r t) where
  fits_is : (b : Bool) → holds_in c c.start ≡ b → start_fits r t ≡ (b && ltb (day_of_moment t) (limit_of r.bound t))
  unfolding start_fits
  fits_is b h = let own = rw (e, same_repeat r t) at h in rw own

  pub begun_from : holds_in c c.start ≡ true → c.start < c.limit → Ok c ≡ begun_of r t
  begun_from h l = rw (e, fits_is true h, lt-ltb _ _ (rw e at l))

  pub begun_late : holds_in c c.start ≡ true → c.limit ≤ c.start → Err NoStart ≡ begun_of r t
  begun_late h l = rw (fits_is true h, le-ltb _ _ (rw e at l))

  pub begun_off : holds_in c c.start ≡ false → Err NoStart ≡ begun_of r t
  begun_off h = rw (fits_is false h)

-- what an answer says of the start
module _ (r : Rule) (t : Moment) (b : Result Course Reason) (e : b ≡ begun_of r t) where
  pub not-begun : (k : Reason) → b ≡ Err k → (k ≡ NoStart) × (days_of r t ≡ refuse NoStart 0 0)
  unfolding days_of
  not-begun k h = go (start_fits r t) (sym h ∙ e)
    where
      go : (x : Bool) → Err k ≡ cond x (Ok (course_of r t)) (Err NoStart) → (k ≡ NoStart) × (cond x (given (occurrences r t)) (refuse NoStart 0 0) ≡ refuse NoStart 0 0)
      go true p = cc
      go false p = (cc, refl)

  pub from_fits : (c : Course) → b ≡ Ok c → (start_fits r t ≡ true) × (c ≡ course_of r t)
  from_fits c h = go (start_fits r t) (sym h ∙ e)
    where
      go : (x : Bool) → Ok c ≡ cond x (Ok (course_of r t)) (Err NoStart) → (x ≡ true) × (c ≡ course_of r t)
      go true p = (refl, cc)
      go false p = cc

  pub begun_course : (c : Course) → b ≡ Ok c → IsRule r → IsMoment t → IsCourse c
  begun_course c h v m = let f = from_fits c h in rw f.1 (is_course r t v m f.0)

  pub begun_days : (c : Course) → b ≡ Ok c → IsRule r → days_of r t ≡ given (days_in c)
  unfolding days_of
  begun_days c h v = let f = from_fits c h in rw (f.0, f.1, same_list r t v)

-- the same by the test of the start, whatever form the caller of `begin` has; the test stands in the claim, so that it shows r and t
pub fit_begins : (r : Rule) (t : Moment) → IsRule r → IsMoment t → start_fits r t ≡ true → (start_fits r t ≡ true) × IsCourse (course_of r t)
fit_begins r t v m e = (e, is_course r t v m e)

-- what listing needs
pub ruleset listing = (fit_begins, same_list)
