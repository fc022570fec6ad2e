-- What comes next of a rule, by the closed forms of its course, and as the code asks for it.
use mathlib.Core.Path.{◌≡◌, refl, ap, sym, ◌∙◌}
use mathlib.Core.Bool.{Bool, true, false, cond, ◌&&◌}
use lib.Dec.{ltb}
use Rattle.std.proofs.Common.{Some, None, Result, Ok, Err}
use Rattle.refusals.specs.declared.Reason.{Reason}
use Rattle.refusals.specs.declared.Reason.TheVariants.{NoStart}
use Prim.Native.Nat.{ℕ, ◌-◌, ◌≤◌, ◌<◌, min}
use native.Mathlib.Omega.{arith}
use borrow.Author.Tests.{le-leb, lt-leb, le-ltb, lt-ltb}
use Rattle.calendar.specs.Gregorian.{days}
use Rattle.calendar.specs.Moments.{IsMoment}
use Rattle.calendar.specs.declared.moments.Moment.{Moment}
use Rattle.rules.specs.Rule.{IsRule}
use Rattle.rules.specs.declared.Rule.{Rule}
use Rattle.repeats.specs.Firsts.{first_from}
use Rattle.repeats.specs.Occurrences.{Repeat, holds, start_fits}
use Rattle.repeats.specs.Courses.{count_of, course_of, repeat_in, days_in, IsCourse, begun_of}
use Rattle.repeats.specs.declared.courses.Course.{Course}
use Rattle.repeats.proofs.Begins.{from_fits, not-begun, begun_course, begun_days}
use Rattle.repeats.proofs.Held.{held_short}
use Rattle.repeats.proofs.Laws.{count_least}
use Rattle.coming.specs.Counts.{count_before}
use Rattle.coming.specs.Next.{next_of, asked_day, next_day, moment_or, answered}
use Rattle.coming.proofs.Moments.{first_day}
use Rattle.coming.proofs.NextDay.{counted, next_day_lem}

-- what is known of the course of a start that fits: the first occurrence at or after the asked moment, by its closed forms
pub record Fits (r : Rule) (t : Moment) (c : Course) : Type 0 where
  pub course : IsCourse c
  pub count : 1 ≤ c.count
  pub closed : (asked : Moment) → IsMoment asked →
      next_of r t asked ≡ moment_or t (next_day (repeat_in c) c.interval c.start c.limit c.count (asked_day t asked))

module _ (r : Rule) (t : Moment) (b : Result Course Reason) (e : b ≡ begun_of r t) where
  pub next_closed : (c : Course) → b ≡ Ok c → IsRule r → IsMoment t → Fits r t c
  next_closed c h v m = record { course = is; count = some_day; closed = next }
    where
      is : IsCourse c
      is = begun_course r t b e c h v m

      some_day : 1 ≤ c.count
      some_day = rw (from_fits r t b e c h).1 (count_least r.bound v.bound)

      next : (asked : Moment) → IsMoment asked →
          next_of r t asked ≡ moment_or t (next_day (repeat_in c) c.interval c.start c.limit c.count (asked_day t asked))
      next asked w =
          let day = next_day_lem (repeat_in c) c.interval c.start c.limit c.count (asked_day t asked) is.least some_day is.matches is.begins is.ends in
          unfold next_of in rw (begun_days r t b e c h v) (first_day t asked (days_in c) m w ∙ ap (moment_or t) day)

  -- 19 where the start does not fit
  pub next_off : (k : Reason) (asked : Moment) → b ≡ Err k → Err k ≡ answered (next_of r t asked)
  unfolding next_of
  next_off k asked h = let off = not-begun r t b e k h in rw (off.0, off.1)

-- the same by the test of the start, whatever form the caller of `begin` has
module _ (r : Rule) (t : Moment) where
  fits : IsRule r → IsMoment t → start_fits r t ≡ true → Fits r t (course_of r t)
  fits v m e = next_closed r t (Ok (course_of r t)) (rw e) (course_of r t) refl v m

  -- what `next_day` asks of the course; the test stands in the claim, so that it shows r and t
  pub next_asks : IsRule r → IsMoment t → start_fits r t ≡ true → (start_fits r t ≡ true) × (IsCourse (course_of r t) × (1 ≤ count_of r.bound))
  next_asks v m e = let f = fits v m e in (e, (f.course, f.count))

  pub next_fit : (asked : Moment) → IsRule r → IsMoment t → IsMoment asked → start_fits r t ≡ true →
      let c = course_of r t in next_of r t asked ≡ moment_or t (next_day (repeat_in c) c.interval c.start c.limit c.count (asked_day t asked))
  next_fit asked v m w e = (fits v m e).closed asked w

  pub next_none : (asked : Moment) → start_fits r t ≡ false → answered (next_of r t asked) ≡ Err NoStart
  next_none asked e = sym (next_off r t (Err NoStart) (rw e) NoStart asked refl)

-- what asking for the next one needs
pub ruleset asking = (next_asks, next_fit, next_none)

-- the code's ways to the day, one after the other; n is what is found from b on
module _ (r : Repeat) (i s limit c b : ℕ) where
  pub day_start : b ≤ s → Some s ≡ next_day r i s limit c b
  unfolding next_day
  day_start h = rw (le-leb b s h)

  pub day_past : s < b → days ≤ b → None ≡ next_day r i s limit c b
  unfolding next_day
  day_past h g = rw (lt-leb b s h, le-ltb b days g)

  pub day_late : (n : ℕ) → s < b → b < days → n ≡ min (first_from r i s b) days → limit ≤ n → None ≡ next_day r i s limit c b
  unfolding next_day
  day_late n h g e l = rw (lt-leb b s h, lt-ltb b days g, le-ltb (first_from r i s b) limit (omega arith))

  pub day_counted : s < b → c ≤ count_before r i s b → None ≡ next_day r i s limit c b
  unfolding next_day
  day_counted h l = rw (lt-leb b s h, le-ltb (count_before r i s b) c l) (go (ltb b days) (ltb (first_from r i s b) limit))
    where
      go : (x y : Bool) → None ≡ cond (x && (y && false)) (Some (first_from r i s b)) None
      go true true = refl
      go true false = refl
      go false y = refl

  pub day_found : (n : ℕ) → s < b → b < days → n ≡ min (first_from r i s b) days → n < limit → limit ≤ days → count_before r i s b < c →
      Some n ≡ next_day r i s limit c b
  unfolding next_day
  day_found n h g e l z k =
      let same : n ≡ first_from r i s b = omega arith in
      rw (lt-leb b s h, lt-ltb b days g, ← same, lt-ltb n limit l, lt-ltb (count_before r i s b) c k)

  -- fewer days lie before b than the calendar has
  pub count_short : 1 ≤ i → holds r i s s ≡ true → s ≤ b → b < days → days ≤ c → count_before r i s b < c
  count_short h e g t l = omega (arith, counted r i s b h e g t, held_short (holds r i s) s (b - s))
