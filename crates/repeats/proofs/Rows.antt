-- Writing a course's days: the next of them, what is written and what is left.
use Prim.Native.Nat.{ℕ, suc, ◌+◌, ◌-◌, ◌*◌, ◌/◌, ◌≤◌, ◌<◌, min}
use native.Mathlib.Nat.{zero-add}
use native.Mathlib.Omega.{arith}
use mathlib.Core.Path.{◌≡◌, ap, sym, ◌∙◌}
use mathlib.Core.List.{List, [], ◌∷◌, ◌++◌, append-nil, append_assoc}
use lib.ListN.{length, take, length-append}
use lib.Seq.{sets, take_all}
use Rattle.digits.proofs.Stores.{sets-append}
use Rattle.digits.proofs.Takes.{take-least}
use Rattle.calendar.specs.Gregorian.{days}
use Rattle.calendar.specs.Moments.{at_day, seven}
use Rattle.calendar.specs.declared.moments.Moment.{Moment}
use Rattle.repeats.specs.Held.{between}
use Rattle.repeats.specs.Firsts.{first_from}
use Rattle.repeats.specs.Courses.{repeat_in, holds_in, days_in, IsCourse}
use Rattle.repeats.specs.Listing.{rows}
use Rattle.repeats.specs.declared.courses.Course.{Course}
use Rattle.repeats.proofs.Held.{held_none}
use Rattle.repeats.proofs.Rules.{found, listed, listed_all}

-- the days of a course from one on
abbrev pub left_from : Course → ℕ → List ℕ
left_from c n = between (holds_in c) n c.limit

-- what `first_from` answers is the next of them, or there is none
module _ (c : Course) (v : IsCourse c) (n day : ℕ) (low : c.start ≤ n) (high : n < c.limit)
    (e : day ≡ min (first_from (repeat_in c) c.interval c.start n) days) where
  pub no_earlier : n ≤ day
  no_earlier =
      let end = v.ends in
      let reached = (found (repeat_in c) c.interval c.start n c.limit v.least v.matches low (omega arith) end).reached in
      omega arith

  pub next_day_lem : day < c.limit → left_from c n ≡ day ∷ left_from c (suc day)
  next_day_lem l =
      let end = v.ends in
      let same : day ≡ first_from (repeat_in c) c.interval c.start n = omega arith in
      rw same (listed (repeat_in c) c.interval c.start n c.limit v.least v.matches low (omega arith) end (omega arith))

  pub no_day : c.limit ≤ day → left_from c n ≡ []
  no_day l =
      let end = v.ends in
      listed_all (repeat_in c) c.interval c.start n c.limit v.least v.matches low (omega arith) end (omega arith)

-- past the limit there is none
pub past_limit : (c : Course) (n : ℕ) → c.limit ≤ n → left_from c n ≡ []
past_limit c n h = held_none (holds_in c) n (c.limit - n) (λ k p q. absurd (omega arith))

-- a row has seven numbers
pub rows_length : (t : Moment) (l : List ℕ) → length (rows t l) ≡ 7 * length l
rows_length t [] = omega arith
rows_length t (n ∷ l) = rw (length-append (seven (at_day n t)) (rows t l)) (omega (arith, rows_length t l))

rows_append : (t : Moment) (l : List ℕ) (n : ℕ) → rows t (l ++ (n ∷ [])) ≡ rows t l ++ seven (at_day n t)
rows_append t [] n = append-nil _
rows_append t (m ∷ l) n = ap (λ k. seven (at_day m t) ++ k) (rows_append t l n) ∙ sym (append_assoc (seven (at_day m t)) (rows t l) (seven (at_day n t)))

-- n rows are written, and what is left of the course's days begins at `next`
pub record Listed (c : Course) (t : Moment) (before now : List ℕ) (n next : ℕ) : Type 0 where
  pub done : List ℕ
  pub count : length done ≡ n
  pub low : c.start ≤ next
  pub left : left_from c c.start ≡ done ++ left_from c next
  pub stored : now ≡ sets before 0 (rows t done)

-- a row more
pub listed_more : (c : Course) (t : Moment) (before now : List ℕ) (n next day : ℕ) → Listed c t before now n next → next ≤ day → left_from c next ≡ day ∷ left_from c (suc day) →
    Listed c t before (sets now (7 * n) (seven (at_day day t))) (n + 1) (day + 1)
listed_more c t before now n next day i later e =
    let low = i.low in
    let size = i.count in
    let on : day + 1 ≡ suc day = omega arith in
    record {
      done = i.done ++ (day ∷ []);
      count = rw (length-append i.done (day ∷ [])) (omega arith);
      low = omega arith;
      left = rw (on, i.left, e) (sym (append_assoc i.done (day ∷ []) (left_from c (suc day))));
      stored = rw (i.stored, rows_append t i.done day, sets-append (rows t i.done) (seven (at_day day t)), rows_length t i.done, size, zero-add);
    }

-- when nothing is left, what is written is all that is listed
module _ (c : Course) (t : Moment) (before now : List ℕ) (most n next size : ℕ) (i : Listed c t before now n next)
    (e : most ≡ min (size / 7) c.count) (w : n ≤ most) where
  taken_is : take most (left_from c c.start) ≡ i.done → take (size / 7) (days_in c) ≡ i.done
  taken_is h = take-least (size / 7) c.count (left_from c c.start) ∙ rw (← e) h

  ended : left_from c next ≡ [] → take (size / 7) (days_in c) ≡ i.done
  ended h = let k = i.count in taken_is (rw (i.left, h, append-nil) (take_all most i.done (omega arith)))

  written : take (size / 7) (days_in c) ≡ i.done →
      (n ≡ length (take (size / 7) (days_in c))) × (now ≡ sets before 0 (rows t (take (size / 7) (days_in c))))
  written h = (rw h (sym i.count), rw h i.stored)

  pub written_all : left_from c next ≡ [] → (n ≡ length (take (size / 7) (days_in c))) × (now ≡ sets before 0 (rows t (take (size / 7) (days_in c))))
  written_all h = written (ended h)
