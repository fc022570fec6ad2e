-- What the list of a rule's occurrences is: in order, sound, complete, the start first; and what is written of it.
use Prim.Native.Nat.{ℕ, zero, suc, ◌+◌, ◌-◌, ◌*◌, ◌/◌, ◌≤◌, ◌<◌}
use native.Mathlib.Nat.{zero-add}
use native.Mathlib.Omega.{arith}
use mathlib.Core.Path.{◌≡◌, refl}
use mathlib.Core.Logic.{◌⊎◌, inl, inr, ⊎_elim}
use mathlib.Core.Bool.{Bool, true, false, cond, and-eq-true_iff}
use mathlib.Core.List.{List, [], ◌∷◌, ◌++◌}
use lib.Dec.{leb, ltb}
use lib.ListN.{length, take, drop, length-take}
use lib.Seq.{sets, sets-eq, take-length}
use borrow.Author.Tests.{leb-true, leb-false, ltb-true}
use Rattle.refusals.specs.declared.Reason.TheVariants.{NoStart}
use Rattle.refusals.specs.Answers.{given, refuse, refusal_at, and_then}
use Rattle.refusals.proofs.Holds.{Holds, of_given, of_refusal, Bounded}
use Rattle.calendar.specs.Gregorian.{days}
use Rattle.calendar.specs.Moments.{IsMoment, NotAfter, at_day, day_of_moment, instant_of}
use Rattle.calendar.specs.declared.moments.Moment.{Moment}
use Rattle.calendar.proofs.Dates.{day_date}
use Rattle.rules.specs.Rule.{IsBound, IsRule}
use Rattle.rules.specs.declared.Bound.{Bound}
use Rattle.rules.specs.declared.Bound.TheVariants.{Endless, Count, UntilDay, UntilMoment}
use Rattle.rules.specs.declared.Rule.{Rule}
use Rattle.repeats.specs.Held.{one}
use Rattle.repeats.specs.Occurrences.{repeat_of, time_of_day, limit_of, counted, occurs_on, occurrences, start_fits, days_of}
use Rattle.repeats.specs.Courses.{count_of}
use Rattle.repeats.specs.Listing.{rows, list_of}
use Rattle.repeats.proofs.Held.{Each, Held, In, Increasing, each_map}
use Rattle.repeats.proofs.Rules.{increasing, sound, complete, starts}
use Rattle.repeats.proofs.Begins.{days_below, days_few, occurrences_are}
use Rattle.repeats.proofs.Rows.{rows_length}

-- a day, from the start's on and below the limit, at which the rule holds
pub record Occurs (r : Rule) (t : Moment) (n : ℕ) : Type 0 where
  pub low : day_of_moment t ≤ n
  pub high : n < limit_of r.bound t
  pub holds : occurs_on r t n ≡ true

-- no COUNT
abbrev pub Uncounted : Bound → Type 0
Uncounted Endless = Unit {0}
Uncounted (Count n) = ⊥
Uncounted (UntilDay y m d) = Unit {0}
Uncounted (UntilMoment u) = Unit {0}

uncounted : (b : Bound) (l : List ℕ) → Uncounted b → counted b l ≡ l
uncounted Endless l u = refl
uncounted (Count n) l u = absurd u
uncounted (UntilDay y m d) l u = refl
uncounted (UntilMoment u) l x = refl

-- COUNT is at least 1
pub count_least : (b : Bound) → IsBound b → 1 ≤ count_of b
count_least Endless v = omega arith
count_least (Count n) v = v
count_least (UntilDay y m d) v = omega arith
count_least (UntilMoment u) v = omega arith

-- an entry of an increasing list is among its first c, or those are c and all before it
pub record Cut (c n : ℕ) (l : List ℕ) : Type 0 where
  pub full : length l ≡ c
  pub before : Each (λ m. m < n) l

later : (b n : ℕ) (l : List ℕ) → Increasing b l → In n l → b ≤ n
later b n [] i e = absurd e
later b n (m ∷ l) i e = let low = i.0 in ⊎_elim (λ (p : n ≡ m). omega arith) (λ p. let h = later (suc m) n l i.1 p in omega arith) e

pub cut : (c b n : ℕ) (l : List ℕ) → Increasing b l → In n l → In n (take c l) ⊎ Cut c n (take c l)
cut zero b n l i e = inr (record { full = refl; before = tt })
cut (suc c) b n [] i e = absurd e
cut (suc c) b n (m ∷ l) i e = ⊎_elim (λ (p : n ≡ m). inl (inl p)) (λ p. ⊎_elim (λ q. inl (inr q)) (λ q. inr (more p q)) (cut c (suc m) n l i.1 p)) e
  where
    more : In n l → Cut c n (take c l) → Cut (suc c) n (m ∷ take c l)
    more p q = let h = later (suc m) n l i.1 p in let k = q.full in record { full = omega arith; before = (omega arith, q.before) }

module _ (r : Rule) (t : Moment) (v : IsRule r) where
  -- the list is strictly increasing
  pub in_order : Increasing (day_of_moment t) (occurrences r t)
  in_order = rw (occurrences_are r t v) (increasing (repeat_of r t) r.interval (day_of_moment t) (limit_of r.bound t) (count_of r.bound))

  -- each entry is an occurrence
  pub all_occur : Each (Occurs r t) (occurrences r t)
  all_occur =
      rw (occurrences_are r t v)
      (each_map (Held (occurs_on r t) (day_of_moment t) (limit_of r.bound t - day_of_moment t)) (Occurs r t) (take (count_of r.bound) (days_below r t)) is
      (sound (repeat_of r t) r.interval (day_of_moment t) (limit_of r.bound t) (count_of r.bound)))
    where
      is : (n : ℕ) → Held (occurs_on r t) (day_of_moment t) (limit_of r.bound t - day_of_moment t) n → Occurs r t n
      is n h = let low = h.low in let high = h.high in record { low = low; high = omega arith; holds = h.holds }

  listed_below : (n : ℕ) → Occurs r t n → In n (days_below r t)
  listed_below n o =
      let low = o.low in
      let high = o.high in
      complete (repeat_of r t) r.interval (day_of_moment t) (limit_of r.bound t) n (record { low = low; high = omega arith; holds = o.holds })

  -- without COUNT each occurrence is an entry
  pub each_listed : Uncounted r.bound → (n : ℕ) → Occurs r t n → In n (occurrences r t)
  unfolding occurrences
  each_listed u n o = rw (uncounted r.bound (days_below r t) u) (listed_below n o)

  -- with it each is, or the list has COUNT entries, all before it
  pub each_counted : (n : ℕ) → Occurs r t n → In n (occurrences r t) ⊎ Cut (count_of r.bound) n (occurrences r t)
  each_counted n o =
      let order = increasing (repeat_of r t) r.interval (day_of_moment t) (limit_of r.bound t) (length (days_below r t)) in
      rw (occurrences_are r t v) (cut (count_of r.bound) (day_of_moment t) n (days_below r t) (rw take-length at order) (listed_below n o))

  -- "The start is the first occurrence"
  pub start_first : start_fits r t ≡ true → take 1 (occurrences r t) ≡ day_of_moment t ∷ []
  unfolding start_fits
  start_first e =
      let both = (and-eq-true_iff (occurs_on r t (day_of_moment t)) (ltb (day_of_moment t) (limit_of r.bound t))).0 e in
      let some : count_of r.bound ≡ suc (count_of r.bound - 1) = omega (arith, count_least r.bound v.bound) in
      rw (occurrences_are r t v, some, starts (repeat_of r t) r.interval (day_of_moment t) (limit_of r.bound t) (count_of r.bound - 1) both.0 (ltb-true _ _ both.1))

  -- what is listed is at most as long as the calendar, and a refusal is 19 with an empty part
  pub list_bounded : (size : ℕ) → Holds (λ l. length l ≤ days) (Bounded 8 19 0) (list_of r t size)
  unfolding days_of
  list_bounded size = go (start_fits r t)
    where
      short : length (take (size / 7) (occurrences r t)) ≤ days
      short = let few = days_few r t v in rw (length-take, occurrences_are r t v, length-take) (omega arith)

      go : (b : Bool) → Holds (λ l. length l ≤ days) (Bounded 8 19 0)
          (and_then (cond b (given (occurrences r t)) (refuse NoStart 0 0)) (λ l. given (take (size / 7) l)))
      go true = of_given short
      go false = of_refusal {r = refusal_at NoStart 0 0} (record { least = omega arith; most = omega arith; start = omega arith; within = omega arith })

-- what is written: the rows of the days, and behind them all is as before
pub rows_front : (t : Moment) (l before : List ℕ) → 7 * length l ≤ length before → sets before 0 (rows t l) ≡ rows t l ++ drop (7 * length l) before
rows_front t l before h =
    let size = rows_length t l in
    rw (sets-eq (rows t l) before 0 (omega arith), zero-add, size)

-- UNTIL a date-time: a day is below the limit exactly if the start's time of day on it is not after that
module _ (t u : Moment) (v : IsMoment t) (w : IsMoment u) (n : ℕ) where
  instant_at_lem : instant_of (at_day n t) ≡ 86400000 * n + time_of_day t
  instant_at_lem = rw (day_date n) (omega arith)

  pub until_in_lem : n < limit_of (UntilMoment u) t → NotAfter (at_day n t) u
  until_in_lem h = go (leb (time_of_day t) (time_of_day u)) refl h
    where
      go : (b : Bool) → leb (time_of_day t) (time_of_day u) ≡ b → n < day_of_moment u + one b → instant_of (at_day n t) ≤ instant_of u
      go true e l = let i = instant_at_lem in let f = leb-true (time_of_day t) (time_of_day u) e in omega (arith, v.time, w.time)
      go false e l = let i = instant_at_lem in omega (arith, v.time, w.time)

  pub until_out : limit_of (UntilMoment u) t ≤ n → instant_of u < instant_of (at_day n t)
  until_out h = go (leb (time_of_day t) (time_of_day u)) refl h
    where
      go : (b : Bool) → leb (time_of_day t) (time_of_day u) ≡ b → day_of_moment u + one b ≤ n → instant_of u < instant_of (at_day n t)
      go true e l = let i = instant_at_lem in omega (arith, v.time, w.time)
      go false e l = let i = instant_at_lem in let f = leb-false (time_of_day t) (time_of_day u) e in omega (arith, v.time, w.time)
