-- What a listing leaves: rows in strict order, the start first, each an occurrence, and none that there is room for is missing; and what asking
-- which comes next answers. Assumes nothing.
use Prim.Native.Nat.{ℕ, zero, suc, ◌*◌, ◌/◌, ◌≤◌, ◌<◌, min}
use native.Mathlib.Omega.{arith}
use mathlib.Core.Path.{◌≡◌, refl, sym, ap, subst, ◌∙◌}
use mathlib.Core.Bool.{Bool, true, false, cond, ◌&&◌}
use mathlib.Core.List.{List, [], ◌∷◌, ◌++◌}
use mathlib.Core.Logic.{inl, inr, ⊎_elim}
use lib.Dec.{leb}
use lib.ListN.{length, get_or, take, drop, length-take}
use lib.Seq.{sets}
use Rattle.digits.proofs.Order.{le-or_lt}
use Rattle.refusals.specs.Table.{number_of}
use Rattle.refusals.specs.declared.Reason.TheVariants.{InvalidMoment, NoRule, NoStart, NoNext}
use Rattle.refusals.specs.Answers.{Answer, given, refuse, and_then}
use Rattle.refusals.proofs.Holds.{Holds, of_given, of_refusal, Bounded}
use Rattle.calendar.specs.Gregorian.{days}
use Rattle.calendar.specs.Moments.{IsMoment, is_moment, at_day, day_of_moment, instant_of}
use Rattle.calendar.specs.declared.moments.Moment.{Moment}
use Rattle.calendar.proofs.Dates.{day_date}
use Rattle.calendar.proofs.Places.{at_day_moment, at_own_day}
use Rattle.calendar.proofs.Valid.{test_moment}
use Rattle.rules.specs.Rule.{IsRule}
use Rattle.rules.specs.Rules.{read_rule}
use Rattle.rules.specs.declared.Rule.{Rule}
use Rattle.rules.proofs.Ruled.{rule_read_lem}
use Rattle.repeats.specs.Courses.{count_of}
use Rattle.repeats.specs.Listing.{rows}
use Rattle.repeats.specs.Occurrences.{occurrences, start_fits, days_of}
use Rattle.repeats.proofs.Begins.{limit_in}
use Rattle.repeats.proofs.Held.{Each, In, Increasing, each_map, take-increasing, take-each}
use Rattle.repeats.proofs.Laws.{Occurs, Cut, cut, in_order, all_occur, each_counted, start_first, rows_front}
use Rattle.coming.specs.Next.{first_after, next_of}
use Rattle.fuzzydate.specs.Called.{moment_after}
use Rattle.agreed.specs.Calls.{ListRule, NextRule, Answers, moment, refusal, row_at, Earlier, OneOf, Stands, row_of, no_room, Listed, Lists, listed, unlisted}
use Rattle.agreed.proofs.NextListed.{row_behind, list_says, Nexts, next_says}
use Rattle.agreed.proofs.NextListed.{Lists as Tells-rows}

-- row i of the rows of some days is at day i of them
row_is : (t : Moment) (l rest : List ℕ) (i : ℕ) → i < length l → row_at (rows t l ++ rest) i ≡ at_day (get_or l i 0) t
row_is t [] rest i h = absurd (omega arith)
row_is t (n ∷ l) rest zero h = refl
row_is t (n ∷ l) rest (suc i) h = row_behind (at_day n t) (rows t l ++ rest) i ∙ row_is t l rest i (omega arith)

-- a later day has the later moment
later_day : (a b : ℕ) (t : Moment) → a < b → instant_of (at_day a t) < instant_of (at_day b t)
later_day a b t h = rw (day_date a, day_date b) (omega arith)

-- neighbours of increasing days
next_day_lem : (b : ℕ) (l : List ℕ) (i : ℕ) → Increasing b l → suc i < length l → get_or l i 0 < get_or l (suc i) 0
next_day_lem b [] i h k = absurd (omega arith)
next_day_lem b (n ∷ []) i h k = absurd (omega arith)
next_day_lem b (n ∷ m ∷ l) zero h k = h.1.0
next_day_lem b (n ∷ m ∷ l) (suc i) h k = next_day_lem (suc n) (m ∷ l) i h.1 (omega arith)

-- what holds of each day holds of day i
each_day : (Q : ℕ → Type 0) (l : List ℕ) (i : ℕ) → Each Q l → i < length l → Q (get_or l i 0)
each_day Q [] i e h = absurd (omega arith)
each_day Q (n ∷ l) zero e h = e.0
each_day Q (n ∷ l) (suc i) e h = each_day Q l i e.1 (omega arith)

-- a day of a list has a place in it
record PlaceIn (n : ℕ) (l : List ℕ) : Type 0 where
  at : ℕ
  below : at < length l
  is : get_or l at 0 ≡ n

place_in : (n : ℕ) (l : List ℕ) → In n l → PlaceIn n l
place_in n [] e = absurd e
place_in n (m ∷ l) e =
    ⊎_elim (λ (p : n ≡ m). record { at = 0; below = omega arith; is = sym p })
    (λ p. let q = place_in n l p in record { at = suc q.at; below = omega (arith, q.below); is = q.is }) e

-- a list whose first entry is d has it in front, however many are taken
record Front (d : ℕ) (l : List ℕ) : Type 0 where
  some : 0 < length l
  is : get_or l 0 0 ≡ d

front_of : (d c : ℕ) (l : List ℕ) → take 1 l ≡ d ∷ [] → 0 < c → Front d (take c l)
front_of d zero l e h = absurd (omega arith)
front_of d (suc c) [] e h = let z : ◌≡◌ {A = ℕ} 0 1 = cc in absurd (omega arith)
front_of d (suc c) (x ∷ l) e h = record { some = omega arith; is = cc }

module _ (r : Rule) (t : Moment) (v : IsRule r) (w : IsMoment t) (fits : start_fits r t ≡ true) (lent : List ℕ) where
  -- the days that are listed
  abbrev room : ℕ
  room = length lent / 7

  abbrev shown : List ℕ
  shown = take room (occurrences r t)

  abbrev left : List ℕ
  left = sets lent 0 (rows t shown)

  short : length shown ≡ min room (length (occurrences r t))
  short = length-take room (occurrences r t)

  row_shown : (i : ℕ) → i < length shown → row_at left i ≡ at_day (get_or shown i 0) t
  row_shown i h = rw (rows_front t shown lent (omega (arith, short))) (row_is t shown (drop (7 * length shown) lent) i h)

  occurs_there : (i : ℕ) → i < length shown → Occurs r t (get_or shown i 0)
  occurs_there i h = each_day (Occurs r t) shown i (take-each (Occurs r t) room (occurrences r t) (all_occur r t v)) h

  -- rows of days before a day are before its moment
  all_before : (n : ℕ) → Each (λ m. m < n) shown → Earlier left (at_day n t) (length shown)
  all_before n e i h =
      subst (λ (u : Moment). instant_of u < instant_of (at_day n t)) (sym (row_shown i h))
      (later_day (get_or shown i 0) n t (each_day (λ m. m < n) shown i e h))

  stands_listed : (n : ℕ) → In n (occurrences r t) → Stands r t room (length shown) left n
  stands_listed n e =
      ⊎_elim
      (λ p. let q = place_in n shown p in row_of q.at q.below (row_shown q.at q.below ∙ ap (λ (m : ℕ). at_day m t) q.is))
      (λ (c : Cut room n shown). no_room (inl c.full) (all_before n c.before))
      (cut room (day_of_moment t) n (occurrences r t) (in_order r t v) e)

  stands_counted : (n : ℕ) → Cut (count_of r.bound) n (occurrences r t) → Stands r t room (length shown) left n
  stands_counted n c =
      no_room
      (⊎_elim (λ (p : length (occurrences r t) ≤ room). inr (omega (arith, p, short, c.full))) (λ (p : room < length (occurrences r t)). inl (omega (arith, p, short)))
      (le-or_lt (length (occurrences r t)) room))
      (all_before n (take-each (λ m. m < n) room (occurrences r t) c.before))

  rows_listed : Listed r t room (length shown) left
  rows_listed =
      record {
        fits = omega (arith, short);
        first = λ h.
            let f = front_of (day_of_moment t) room (occurrences r t) (start_first r t v fits) h in
            row_shown 0 f.some ∙ ap (λ (m : ℕ). at_day m t) f.is ∙ at_own_day t w;
        in_order = λ i h.
            let here = row_shown i (omega arith) in
            let next = row_shown (suc i) h in
            let days = next_day_lem (day_of_moment t) shown i (take-increasing room (day_of_moment t) (occurrences r t) (in_order r t v)) h in
            subst (λ (u : Moment). instant_of u < instant_of (row_at left (suc i))) (sym here)
            (subst (λ (u : Moment). instant_of (at_day (get_or shown i 0) t) < instant_of u) (sym next)
            (later_day (get_or shown i 0) (get_or shown (suc i) 0) t days));
        moments = λ i h.
            let o = occurs_there i h in
            subst IsMoment (sym (row_shown i h))
            (at_day_moment (get_or shown i 0) t (omega (arith, o.high, limit_in r.bound t v.bound)) w);
        occurs = λ i h.
            subst (λ (u : Moment). Occurs r t (day_of_moment u) × (at_day (day_of_moment u) t ≡ u)) (sym (row_shown i h))
            (rw (day_date (get_or shown i 0)) (occurs_there i h, refl));
        all = λ n o. ⊎_elim (stands_listed n) (stands_counted n) (each_counted r t v n o);
      }

-- what listing may answer and leave, of every text as a rule and every start
pub list_answers : (s : List ℕ) (t : Moment) {lent left : List ℕ} {k : ℕ} → ListRule s t lent k left → Lists s t lent k left
unfolding days_of
list_answers s t {lent} {left} {k} c = by_start (is_moment t) refl (read_rule s) refl (rule_read_lem s) (list_says c)
  where
    by_days : (r : Rule) → read_rule s ≡ given r → IsRule r → IsMoment t → (b : Bool) → start_fits r t ≡ b →
        Tells-rows (and_then (cond b (given (occurrences r t)) (refuse NoStart 0 0)) (λ l. given (take (length lent / 7) l))) t lent k left → Lists s t lent k left
    by_days r e v w true f m = rw (m.number_is, m.array'_is) (listed (take (length lent / 7) (occurrences r t)) e (rows_listed r t v w f lent))
    by_days r e v w false f m = rw (m.number_is, m.array'_is) (unlisted {k = number_of NoStart} (inr (inr (inl refl))))

    by_rule : (w : Answer Rule) → read_rule s ≡ w → Holds IsRule (Bounded 18 18 0) w → IsMoment t →
        Tells-rows (and_then w (λ r. and_then (days_of r t) (λ l. given (take (length lent / 7) l)))) t lent k left → Lists s t lent k left
    by_rule w e (of_given {x} v) valid m = by_days x e v valid (start_fits x t) refl m
    by_rule w e (of_refusal {r} b) valid m = rw m.array'_is (unlisted {k = k} (inr (inl (omega (arith, m.number_is, b)))))

    by_start : (b : Bool) → is_moment t ≡ b → (w : Answer Rule) → read_rule s ≡ w → Holds IsRule (Bounded 18 18 0) w →
        Tells-rows (cond b (and_then w (λ r. and_then (days_of r t) (λ l. given (take (length lent / 7) l)))) (refuse InvalidMoment 0 0)) t lent k left → Lists s t lent k left
    by_start true f w e h m = by_rule w e h (test_moment t f) m
    by_start false f w e h m = rw (m.number_is, m.array'_is) (unlisted {k = number_of InvalidMoment} (inl refl))

-- what asking which comes next may answer
abbrev NextAnswers : List ℕ → ℕ → List ℕ → Type 0
NextAnswers array k array' = Answers moment_after IsMoment (OneOf (InvalidMoment ∷ NoRule ∷ NoStart ∷ NoNext ∷ [])) 0 array k array'

module _ (t asked : Moment) (w : IsMoment t) {array array' : List ℕ} {k : ℕ} where
  -- the first of some days of the calendar
  first_answers : (l : List ℕ) → Each (λ n. n < days) l → Nexts (first_after t asked l) array k array' → NextAnswers array k array'
  unfolding first_after
  first_answers [] e m = rw (m.number_is, m.array'_is) (refusal {k = number_of NoNext} (inr (inr (inr (inl refl)))) (omega arith))
  first_answers (n ∷ l) e m = go (leb (instant_of asked) (instant_of (at_day n t))) (first_answers l e.1) m
    where
      go : (b : Bool) → (Nexts (first_after t asked l) array k array' → NextAnswers array k array') →
          Nexts (cond b (given (at_day n t)) (first_after t asked l)) array k array' → NextAnswers array k array'
      go true rest m = rw (m.number_is, m.array'_is) (moment (at_day_moment n t e.0 w))
      go false rest m = rest m

-- "8 covers the asked moment too; after 18 and 19, 20": 0 and a moment of the years 1 to 9999, or one of these four, and nothing written
pub next_answers : (s : List ℕ) (t asked : Moment) {array array' : List ℕ} {k : ℕ} → NextRule s t asked array k array' → NextAnswers array k array'
unfolding next_of days_of
next_answers s t asked {array} {array'} {k} c = by_start (is_moment t) refl (is_moment asked) (read_rule s) (rule_read_lem s) (next_says c)
  where
    by_days : (r : Rule) → IsRule r → IsMoment t → (b : Bool) →
        Nexts (and_then (cond b (given (occurrences r t)) (refuse NoStart 0 0)) (λ l. first_after t asked l)) array k array' → NextAnswers array k array'
    by_days r v w true m =
        first_answers t asked w (occurrences r t)
        (each_map (Occurs r t) (λ n. n < days) (occurrences r t) (λ n o. omega (arith, o.high, limit_in r.bound t v.bound)) (all_occur r t v)) m
    by_days r v w false m = rw (m.number_is, m.array'_is) (refusal {k = number_of NoStart} (inr (inr (inl refl))) (omega arith))

    by_rule : (w : Answer Rule) → Holds IsRule (Bounded 18 18 0) w → IsMoment t →
        Nexts (and_then w (λ r. and_then (days_of r t) (λ l. first_after t asked l))) array k array' → NextAnswers array k array'
    by_rule w (of_given {x} v) valid m = by_days x v valid (start_fits x t) m
    by_rule w (of_refusal {r} b) valid m =
        rw m.array'_is (refusal {k = k} (inr (inl (omega (arith, m.number_is, b)))) (omega (arith, m.number_is, b)))

    by_start : (a : Bool) → is_moment t ≡ a → (b : Bool) (w : Answer Rule) → Holds IsRule (Bounded 18 18 0) w →
        Nexts (cond (a && b) (and_then w (λ r. and_then (days_of r t) (λ l. first_after t asked l))) (refuse InvalidMoment 0 0)) array k array' →
        NextAnswers array k array'
    by_start true f true w h m = by_rule w h (test_moment t f) m
    by_start true f false w h m = rw (m.number_is, m.array'_is) (refusal {k = number_of InvalidMoment} (inl refl) (omega arith))
    by_start false f b w h m = rw (m.number_is, m.array'_is) (refusal {k = number_of InvalidMoment} (inl refl) (omega arith))
