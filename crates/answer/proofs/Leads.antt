-- What evaluation leads to: a moment with a property that every step keeps, or a refusal of 9 to 13.
use Prim.Native.Nat.{ℕ, ◌+◌, ◌-◌, ◌*◌, ◌/◌, ◌%◌, ◌<◌}
use native.Mathlib.Omega.{arith}
use mathlib.Core.Path.{◌≡◌, refl, sym, ◌∙◌}
use mathlib.Core.Logic.{◌⊎◌, inl, inr, ⊎_elim}
use mathlib.Core.Bool.{Bool, true, false, false≢true, cond, ◌&&◌, ◌||◌, and-eq-true_iff}
use lib.Dec.{leb, ltb}
use borrow.Author.Tests.{leb-true, ltb-true}
use Rattle.refusals.specs.Table.{number_of}
use Rattle.refusals.specs.declared.Reason.{Reason}
use Rattle.refusals.specs.declared.Reason.TheVariants.{NoSense}
use Rattle.calendar.specs.Gregorian.{leap_year, month_length, IsDate, days}
use Rattle.calendar.specs.Moments.{IsMoment, Outcome, moment, refused, and_then, with_date, is_date, is_time, in_range}
use Rattle.calendar.specs.Moments.{on_day, moved, has_room, minute_number, minutes, at_minute, minutes_step, month_number, months, months_step}
use Rattle.calendar.specs.Moments.{year_number, years, in_year, years_step}
use Rattle.calendar.specs.declared.moments.Moment.{Moment}
use Rattle.calendar.proofs.Valid.{test_date, test_time}
use Rattle.calendar.proofs.Rooms.{below_limit}
use Rattle.calendar.proofs.Places.{at_day_moment, at_minute_moment, minute_below, month_below, in_month_moment, in_year_date}
use Rattle.dates.specs.Durations.{Duration, part, concat, is_sub_daily_unit, is_sub_daily_part, is_sub_daily}
use Rattle.dates.specs.declared.date.Date.{Date}
use Rattle.dates.specs.declared.date.Date.TheVariants.{YearMonthNumDay, MonthNumDayYear, DayMonthYear, MonthDayYear}
use Rattle.dates.specs.declared.date.Date.TheVariants.{MonthNumDay, MonthDay, Today, Tomorrow, Yesterday, Empty as NoDate}
use Rattle.dates.specs.declared.duration.Part.{Part}
use Rattle.dates.specs.declared.duration.Part.TheVariants.{Article, Specific}
use Rattle.dates.specs.declared.time.Time.{Time}
use Rattle.dates.specs.declared.time.Time.TheVariants.{HourMin, HourMinAM, HourMinPM, Empty as NoTime}
use Rattle.dates.specs.declared.units.Unit.{Unit}
use Rattle.dates.specs.declared.units.Unit.TheVariants.{Day, Week, Hour, Minute, Month, Year}
use Rattle.dates.specs.declared.units.RelativeSpecifier.{RelativeSpecifier}
use Rattle.dates.specs.declared.units.RelativeSpecifier.TheVariants.{This, Next, Last}
use Rattle.expressions.specs.Tree.{DateExpr, date, date_relative, date_expression_after, date_expression_before, unit_relative, relative_weekday}
use Rattle.expressions.specs.Tree.{weekday_relative, weekday_expression_before, weekday_expression_after, before, after, weekday, empty}
use Rattle.phrase.specs.Tree.{DateTime, date_time, time_date, duration_after, duration_before, now}
use Rattle.evaluation.specs.Steps.{unit_step, part_step, duration_step}
use Rattle.evaluation.specs.Weekdays.{days_back, in_week, forward_to, back_to}
use Rattle.evaluation.specs.Dates.{stated_date, date_at}
use Rattle.evaluation.specs.Times.{stated_time, time_at}
use Rattle.evaluation.specs.Evaluate.{by_year, is_year, is_week, is_month_and_day, by_unit, date_expr_at, evaluate_in, evaluate}

-- a moment with a property, or a refusal of 9 to 13
pub data Leads (M : Moment → Type 0) : Outcome → Type 0 where
  leads : {t : Moment} → M t → Leads M (moment t)
  refuses : {k : Reason} → in_range (number_of k) 9 13 ≡ true → Leads M (refused k)

-- by a test
tested : {M : Moment → Type 0} (b : Bool) (o p : Outcome) → (b ≡ true → Leads M o) → Leads M p → Leads M (cond b o p)
tested true o p f g = f refl
tested false o p f g = g

-- a step behind another
pub behind :
    {M N : Moment → Type 0} {o : Outcome} (f : Moment → Outcome) → Leads M o → ((t : Moment) → M t → Leads N (f t)) → Leads N (and_then o f)
behind f (leads {t = t} h) g = g t h
behind f (refuses e) g = refuses e

-- a disjunction with a true right side
or_right : (a : Bool) {b : Bool} → b ≡ true → a || b ≡ true
or_right true e = refl
or_right false e = e

-- whole days keep the minutes of the day
days_moved : (back : Bool) (k n limit : ℕ) → has_room back k n limit ≡ true → k % 1440 ≡ 0 → moved back k n % 1440 ≡ n % 1440
days_moved true k n limit h e = let most = leb-true k n h in omega arith
days_moved false k n limit h e = omega arith

-- a property of moments that steps keep: another date, another minute (of another time of day where `sub` is true)
pub record Kept (M : Moment → Type 0) (sub : Bool) : Type 0 where
  valid : (t : Moment) → M t → IsMoment t
  dated : (t : Moment) (y m d : ℕ) → M t → IsDate y m d → M (with_date y m d t)
  minute : (t : Moment) (n : ℕ) → M t → n < minutes → (sub ≡ true) ⊎ (n % 1440 ≡ minute_number t % 1440) → M (at_minute n t)

module _ {M : Moment → Type 0} {sub : Bool} (kept : Kept M sub) where
  pub minutes_lead : (back : Bool) (k : ℕ) (t : Moment) → M t → (sub ≡ true) ⊎ (k % 1440 ≡ 0) → Leads M (minutes_step back k t)
  unfolding minutes_step
  minutes_lead back k t h s =
      let n = minute_number t in
      let below = minute_below t (kept.valid t h) in
      tested (has_room back k n minutes) _ _
      (λ e. leads (kept.minute t _ h (below_limit back k n minutes below e) (⊎_elim inl (λ z. inr (days_moved back k n minutes e z)) s)))
      (refuses refl)

  pub months_lead : (back : Bool) (k : ℕ) (t : Moment) → M t → Leads M (unit_step back k Month t)
  unfolding months_step
  months_lead back k t h =
      let n = month_number t in
      let v = kept.valid t h in
      tested (has_room back k n months) _ _
      (λ e. leads (kept.dated t _ _ _ h (in_month_moment _ t (below_limit back k n months (month_below t v) e) v).date)) (refuses refl)

  in_year_leads : (n : ℕ) (t : Moment) → M t → n < years → Leads M (in_year n t)
  in_year_leads n t h below =
      tested (leb t.day (month_length (leap_year (n + 1)) t.month)) _ _
      (λ e. leads (kept.dated t _ _ _ h (in_year_date t (kept.valid t h) below (leb-true _ _ e)))) (refuses refl)

  pub years_lead : (back : Bool) (k : ℕ) (t : Moment) → M t → Leads M (unit_step back k Year t)
  unfolding years_step
  years_lead back k t h =
      let n = year_number t in
      tested (has_room back k n years) _ _
      (λ e. in_year_leads _ t h (below_limit back k n years (omega (arith, (kept.valid t h).date)) e)) (refuses refl)

  -- a unit
  unit_leads :
      (back : Bool) (k : ℕ) (u : Unit) (t : Moment) → (is_sub_daily_unit u ≡ true → sub ≡ true) → M t → Leads M (unit_step back k u t)
  unit_leads back k Day t s h = minutes_lead back (1440 * k) t h (inr (omega arith))
  unit_leads back k Week t s h = minutes_lead back (10080 * k) t h (inr (omega arith))
  unit_leads back k Hour t s h = minutes_lead back (60 * k) t h (inl (s refl))
  unit_leads back k Minute t s h = minutes_lead back k t h (inl (s refl))
  unit_leads back k Month t s h = months_lead back k t h
  unit_leads back k Year t s h = years_lead back k t h

  part_leads : (back : Bool) (p : Part) (t : Moment) → (is_sub_daily_part p ≡ true → sub ≡ true) → M t → Leads M (part_step back p t)
  part_leads back (Article u) t s h = unit_leads back 1 u t s h
  part_leads back (Specific u k) t s h = unit_leads back k u t s h

  -- a duration
  duration_leads :
      (back : Bool) (d : Duration) (t : Moment) → (is_sub_daily d ≡ true → sub ≡ true) → M t → Leads M (duration_step back d t)
  duration_leads back (part p) t s h = part_leads back p t s h
  duration_leads back (concat p d) t s h =
      behind (duration_step back d) (part_leads back p t (λ e. s (rw e)) h)
      (λ u w. duration_leads back d u (λ e. s (or_right (is_sub_daily_part p) e)) w)

-- the moments of the calendar are kept
pub kept_moment : Kept IsMoment true
kept_moment = record {
  valid = λ t v. v;
  dated = λ t y m d v w. record { date = w; time = v.time };
  minute = λ t n v below s. at_minute_moment n t below v;
}

-- where a date expression leads from a moment of the calendar
module _ (t : Moment) (v : IsMoment t) where
  stated_leads : (y m d : ℕ) → Leads IsMoment (stated_date y m d t)
  stated_leads y m d =
      tested (in_range y 1 9999) _ _
      (λ _.
      tested (is_date y m d) _ _ (λ e. leads (record { date = test_date y m d e; time = v.time })) (refuses refl))
      (refuses refl)

  pub date_leads : (d : Date) → Leads IsMoment (date_at d t)
  date_leads Today = leads v
  date_leads Yesterday = minutes_lead kept_moment true 1440 t v (inl refl)
  date_leads Tomorrow = minutes_lead kept_moment false 1440 t v (inl refl)
  date_leads (MonthNumDay m d) = stated_leads t.year m d
  date_leads (MonthNumDayYear m d y) = stated_leads y m d
  date_leads (YearMonthNumDay y m d) = stated_leads y m d
  date_leads (MonthDay m d) = stated_leads t.year m d
  date_leads (MonthDayYear m d y) = stated_leads y m d
  date_leads (DayMonthYear d m y) = stated_leads y m d
  date_leads NoDate = leads v

  pub on_day_leads : (n : ℕ) → Leads IsMoment (on_day n t)
  unfolding on_day
  on_day_leads n = tested (ltb n days) _ _ (λ e. leads (at_day_moment n t (ltb-true n days e) v)) (refuses refl)

  pub days_back_lead : (n b : ℕ) → Leads IsMoment (days_back n b t)
  unfolding days_back
  days_back_lead n b = tested (leb b n) _ _ (λ _. on_day_leads (n - b)) (refuses refl)

  pub week_leads : (s : RelativeSpecifier) (w : ℕ) → Leads IsMoment (in_week s w t)
  week_leads This w = on_day_leads _
  week_leads Next w = on_day_leads _
  week_leads Last w = days_back_lead _ _

  by_year_leads : (s : RelativeSpecifier) → Leads IsMoment (by_year s t)
  by_year_leads This = leads v
  by_year_leads Next = years_lead kept_moment false 1 t v
  by_year_leads Last = years_lead kept_moment true 1 t v

  by_unit_leads : (s : RelativeSpecifier) (u : Unit) → Leads IsMoment (by_unit s u t)
  by_unit_leads Next u = unit_leads kept_moment false 1 u t (λ e. refl) v
  by_unit_leads Last u = unit_leads kept_moment true 1 u t (λ e. refl) v
  by_unit_leads This u = refuses {k = NoSense} refl

lasts : (back : Bool) (d : Duration) (t : Moment) → IsMoment t → Leads IsMoment (duration_step back d t)
lasts back d t v = duration_leads kept_moment back d t (λ e. refl) v

expr_leads : (e : DateExpr) (t : Moment) → IsMoment t → Leads IsMoment (date_expr_at e t)
expr_leads (date d) t v = date_leads t v d
expr_leads (date_relative d s u) t v =
    tested (is_year u && is_month_and_day d) _ _
    (λ _. behind (by_year s) (date_leads t v d) (λ w h. by_year_leads w h s)) (refuses refl)
expr_leads (weekday_expression_before w d) t v = behind (back_to (w % 7)) (lasts true d t v) (λ u h. days_back_lead u h _ _)
expr_leads (weekday_expression_after w d) t v = behind (forward_to (w % 7)) (lasts false d t v) (λ u h. on_day_leads u h _)
expr_leads (date_expression_after d dur) t v = behind (duration_step false dur) (date_leads t v d) (lasts false dur)
expr_leads (date_expression_before d dur) t v = behind (duration_step true dur) (date_leads t v d) (lasts true dur)
expr_leads (before dur d) t v = behind (duration_step true dur) (date_leads t v d) (lasts true dur)
expr_leads (after dur d) t v = behind (duration_step false dur) (date_leads t v d) (lasts false dur)
expr_leads (unit_relative s u) t v = tested (is_sub_daily_unit u) _ _ (λ _. refuses refl) (by_unit_leads t v s u)
expr_leads (relative_weekday s w) t v = week_leads t v s (w % 7)
expr_leads (weekday_relative w s u) t v = tested (is_week u) _ _ (λ _. week_leads t v s (w % 7)) (refuses refl)
expr_leads (weekday w) t v = on_day_leads t v _
expr_leads empty t v = leads v

-- a moment of the calendar with a second and a millisecond
pub record AtSecond (s ms : ℕ) (t : Moment) : Type 0 where
  pub valid : IsMoment t
  pub second : t.second ≡ s
  pub millisecond : t.millisecond ≡ ms

stated_time_leads : (b : Bool) (h m : ℕ) (t : Moment) → IsMoment t → Leads (AtSecond 0 0) (stated_time b h m t)
stated_time_leads b h m t v =
    tested (b && is_time h m 0 0) _ _
    (λ e.
    let time = test_time h m 0 0 ((and-eq-true_iff b _).0 e).1 in
    leads (record { valid = record { date = v.date; time = time }; second = refl; millisecond = refl }))
    (refuses refl)

at_moment : {s ms : ℕ} {o : Outcome} → Leads (AtSecond s ms) o → Leads IsMoment o
at_moment (leads h) = leads h.valid
at_moment (refuses e) = refuses e

-- where a stated time of day leads
clock_leads : (x : Time) (n t : Moment) → (x ≡ NoTime → ⊥) → IsMoment t → Leads (AtSecond 0 0) (time_at x n t)
clock_leads NoTime n t stated v = absurd (stated refl)
clock_leads (HourMin h m) n t stated v = stated_time_leads true h m t v
clock_leads (HourMinAM h m) n t stated v = stated_time_leads (in_range h 1 12) (h % 12) m t v
clock_leads (HourMinPM h m) n t stated v = stated_time_leads (in_range h 1 12) (h % 12 + 12) m t v

-- where a time of day leads
pub time_leads : (x : Time) (n t : Moment) → IsMoment n → IsMoment t → Leads IsMoment (time_at x n t)
time_leads NoTime n t w v = leads (record { date = v.date; time = w.time })
time_leads (HourMin h m) n t w v = at_moment (stated_time_leads true h m t v)
time_leads (HourMinAM h m) n t w v = at_moment (stated_time_leads (in_range h 1 12) (h % 12) m t v)
time_leads (HourMinPM h m) n t w v = at_moment (stated_time_leads (in_range h 1 12) (h % 12 + 12) m t v)

-- the time that a reading states
abbrev pub time_of : DateTime → Time
time_of (date_time e t) = t
time_of (time_date t e) = t
time_of (duration_after d x) = time_of x
time_of (duration_before d x) = time_of x
time_of now = NoTime

-- whether the durations around its base have hours or minutes
abbrev pub has_sub_daily : DateTime → Bool
has_sub_daily (date_time e t) = false
has_sub_daily (time_date t e) = false
has_sub_daily (duration_after d x) = is_sub_daily d || has_sub_daily x
has_sub_daily (duration_before d x) = is_sub_daily d || has_sub_daily x
has_sub_daily now = false

module _ {M : Moment → Type 0} {sub : Bool} (kept : Kept M sub) (n : Moment) (v : IsMoment n) where
  -- a reading leads to what now and its time of day give and its durations keep
  tree_leads :
      (x : DateTime) → (time_of x ≡ NoTime → M n) → ((u : Moment) → IsMoment u → Leads M (time_at (time_of x) n u)) →
      (has_sub_daily x ≡ true → sub ≡ true) → Leads M (evaluate x n)
  unfolding evaluate_in
  tree_leads (date_time e t) own timed s = behind (time_at t n) (expr_leads e n v) timed
  tree_leads (time_date t e) own timed s = behind (time_at t n) (expr_leads e n v) timed
  tree_leads (duration_after d x) own timed s =
      behind (duration_step false d) (tree_leads x own timed (λ e. s (or_right (is_sub_daily d) e)))
      (λ u h. duration_leads kept false d u (λ e. s (rw e)) h)
  tree_leads (duration_before d x) own timed s =
      behind (duration_step true d) (tree_leads x own timed (λ e. s (or_right (is_sub_daily d) e)))
      (λ u h. duration_leads kept true d u (λ e. s (rw e)) h)
  tree_leads now own timed s = leads (own refl)

-- a moment of the calendar, or a refusal
pub valid_leads : (x : DateTime) (n : Moment) → IsMoment n → Leads IsMoment (evaluate x n)
valid_leads x n v = tree_leads kept_moment n v x (λ e. v) (λ u h. time_leads (time_of x) n u v h) (λ e. refl)

-- second and millisecond are kept
kept_second : (s ms : ℕ) → Kept (AtSecond s ms) true
kept_second s ms = record {
  valid = λ t h. h.valid;
  dated =
      λ t y m d h w. record { valid = record { date = w; time = h.valid.time }; second = h.second; millisecond = h.millisecond };
  minute =
      λ t k h below s. record { valid = at_minute_moment k t below h.valid; second = h.second; millisecond = h.millisecond };
}

-- without a stated time: now's
pub second_leads : (x : DateTime) (n : Moment) → IsMoment n → time_of x ≡ NoTime → Leads (AtSecond n.second n.millisecond) (evaluate x n)
second_leads x n v e =
    tree_leads (kept_second _ _) n v x (λ e. record { valid = v; second = refl; millisecond = refl })
    (λ u h. rw e (leads (record { valid = record { date = h.date; time = v.time }; second = refl; millisecond = refl }))) (λ e. refl)

-- with one: 0
pub clocked_leads : (x : DateTime) (n : Moment) → IsMoment n → (time_of x ≡ NoTime → ⊥) → Leads (AtSecond 0 0) (evaluate x n)
clocked_leads x n v stated =
    tree_leads (kept_second 0 0) n v x (λ e. absurd (stated e)) (λ u h. clock_leads (time_of x) n u stated h) (λ e. refl)

-- a moment of the calendar with the time of day of n
pub record SameTime (n t : Moment) : Type 0 where
  pub valid : IsMoment t
  pub hour : t.hour ≡ n.hour
  pub minute : t.minute ≡ n.minute
  pub second : t.second ≡ n.second
  pub millisecond : t.millisecond ≡ n.millisecond

-- the minutes of a day are its hour and minute
of_day : (a h m k : ℕ) → h < 24 → m < 60 → k % 1440 ≡ (1440 * a + 60 * h + m) % 1440 → (k % 1440 / 60 ≡ h) × (k % 60 ≡ m)
of_day a h m k x y e = (omega arith, omega arith)

kept_time : (n : Moment) → Kept (SameTime n) false
kept_time n = record {
  valid = λ t h. h.valid;
  dated =
      λ t y m d h w. record {
        valid = record { date = w; time = h.valid.time };
        hour = h.hour;
        minute = h.minute;
        second = h.second;
        millisecond = h.millisecond;
      };
  minute =
      λ t k h below s.
      let time = h.valid.time in
      let day = ⊎_elim (λ e. absurd (false≢true e)) (of_day _ t.hour t.minute k time.hour time.minute) s in
      record {
        valid = at_minute_moment k t below h.valid;
        hour = day.0 ∙ h.hour;
        minute = day.1 ∙ h.minute;
        second = h.second;
        millisecond = h.millisecond;
      };
}

-- without a stated time, and with no hours or minutes around the base
pub time_of_day_leads :
    (x : DateTime) (n : Moment) → IsMoment n → time_of x ≡ NoTime → has_sub_daily x ≡ false → Leads (SameTime n) (evaluate x n)
time_of_day_leads x n v e f =
    tree_leads (kept_time n) n v x (λ _. same v) (λ u h. rw e (leads (same (record { date = h.date; time = v.time })))) (λ g. sym f ∙ g)
  where
    same : {y m d : ℕ} → IsMoment (with_date y m d n) → SameTime n (with_date y m d n)
    same w = record { valid = w; hour = refl; minute = refl; second = refl; millisecond = refl }
