-- What comes next is the first row, at or after the asked moment, of what listing left with room for all. Assumes nothing.
use Prim.Native.Nat.{ℕ, zero, suc, ◌+◌, ◌*◌, ◌/◌, ◌≤◌, ◌<◌, min}
use native.Mathlib.Omega.{arith}
use mathlib.Core.Path.{◌≡◌, refl, sym, subst, ◌∙◌}
use mathlib.Core.Bool.{Bool, true, false, cond, ◌&&◌}
use mathlib.Core.List.{List, [], ◌∷◌, ◌++◌}
use lib.Dec.{leb}
use lib.ListN.{length, drop, take, length-take}
use lib.Seq.{take_all}
use borrow.Author.Tests.{leb-true, leb-false}
use Rattle.refusals.specs.declared.Reason.TheVariants.{InvalidMoment}
use Rattle.refusals.specs.Answers.{Answer, given, refused, refusal_at, refuse, and_then}
use Rattle.refusals.specs.declared.Refusal.{Refusal}
use Rattle.refusals.proofs.Holds.{Holds, Bounded, refusal_holds, given_holds}
use Rattle.calendar.specs.Moments.{IsMoment, seven, at_day, instant_of, NotAfter, is_moment}
use Rattle.calendar.specs.declared.moments.Moment.{Moment}
use Rattle.calendar.proofs.Valid.{moment_passes}
use Rattle.rules.specs.Rules.{read_rule}
use Rattle.rules.specs.declared.Rule.{Rule}
use Rattle.rules.specs.Rule.{IsRule}
use Rattle.rules.proofs.Ruled.{rule_read_lem}
use Rattle.repeats.specs.Occurrences.{days_of}
use Rattle.repeats.specs.Listing.{rows, list_of, rows_after}
use Rattle.repeats.proofs.Laws.{list_bounded, rows_front}
use Rattle.coming.specs.Next.{first_after, next_of}
use Rattle.fuzzydate.specs.Called.{code_of, moment_after, written_code, list_in, next_in}
use Rattle.agreed.specs.Calls.{ListRule, NextRule, row_at, Earlier, FirstRow, row, none, number, size}
use Rattle.agreed.proofs.AnyNow.{Tells, tells, Says}

-- a row behind the first is a row of what is behind it
pub row_behind : (u : Moment) (rest : List ℕ) (i : ℕ) → row_at (seven u ++ rest) (suc i) ≡ row_at rest i
row_behind u rest i = let e : 7 * suc i ≡ suc (suc (suc (suc (suc (suc (suc (7 * i))))))) = omega arith in rw e

-- one early row more in front
one_more : (u asked : Moment) (rest : List ℕ) (i : ℕ) → instant_of u < instant_of asked → Earlier rest asked i → Earlier (seven u ++ rest) asked (suc i)
one_more u asked rest i e h zero l = e
one_more u asked rest i e h (suc j) l = subst (λ v. instant_of v < instant_of asked) (sym (row_behind u rest j)) (h j (omega arith))

-- the answer behind an early row is that behind the rows from there on
behind : (u asked : Moment) (rest array : List ℕ) (count : ℕ) {k : ℕ} {array' : List ℕ} → instant_of u < instant_of asked →
    FirstRow rest count asked array k array' → FirstRow (seven u ++ rest) (suc count) asked array k array'
behind u asked rest array count e (row i l h f) =
    let same = row_behind u rest i in
    subst (λ v. FirstRow (seven u ++ rest) (suc count) asked array 0 (seven v)) same
    (row (suc i) (omega arith) (subst (λ v. NotAfter asked v) (sym same) h) (one_more u asked rest i e f))
behind u asked rest array count e (none f) = none (one_more u asked rest count e f)

-- the list's first entry at or after the asked moment is the first such row
pub first_row : (t asked : Moment) (l rest array : List ℕ) →
    FirstRow (rows t l ++ rest) (length l) asked array (code_of (first_after t asked l)) (moment_after (first_after t asked l) array)
unfolding first_after
first_row t asked [] rest array = none (λ j l. absurd (omega arith))
first_row t asked (n ∷ l) rest array = go (first_row t asked l rest array) (leb (instant_of asked) (instant_of (at_day n t))) refl
  where
    go : FirstRow (rows t l ++ rest) (length l) asked array (code_of (first_after t asked l)) (moment_after (first_after t asked l) array) →
        (b : Bool) → leb (instant_of asked) (instant_of (at_day n t)) ≡ b →
        let w = cond b (given (at_day n t)) (first_after t asked l) in
        FirstRow (seven (at_day n t) ++ (rows t l ++ rest)) (suc (length l)) asked array (code_of w) (moment_after w array)
    go later true e = row 0 (omega arith) (leb-true _ _ e) (λ j l. absurd (omega arith))
    go later false e = behind (at_day n t) asked (rows t l ++ rest) array (length l) (leb-false _ _ e) later

-- what a listing of the definitions becomes in a call
abbrev pub Lists : Answer (List ℕ) → Moment → List ℕ → ℕ → List ℕ → Type 0
Lists w t lent k left = Tells (λ (x : Answer (List ℕ) × Moment). written_code x.0) (λ x l. rows_after x.1 l x.0) (w, t) lent k left

-- and what comes next
abbrev pub Nexts : Answer Moment → List ℕ → ℕ → List ℕ → Type 0
Nexts w array k array' = Says moment_after w array k array'

pub list_says : {s lent left : List ℕ} {t : Moment} {k : ℕ} → ListRule s t lent k left → Lists (list_in s t (length lent)) t lent k left
list_says =
    tells (λ (x : Answer (List ℕ) × Moment). written_code x.0) (λ x l. rows_after x.1 l x.0) (λ g l. (list_in g.0 g.1 (length l), g.1))
    (λ κs a e k g l h p. record { number_is = p.0; array'_is = p.1 })

pub next_says : {s array array' : List ℕ} {t asked : Moment} {k : ℕ} → NextRule s t asked array k array' → Nexts (next_in s t asked) array k array'
next_says = tells code_of moment_after (λ g l. next_in g.0 g.1 g.2) (λ κs a e k g l h p. record { number_is = p.0; array'_is = p.1 })

-- a rule that is listed and asked from one start: where the listing did not fill its room, the first of its rows at or after the asked moment, or
-- 20 where there is none; and where it is refused, asking is refused alike, and nothing is written
pub record Agrees (lent left : List ℕ) (k : ℕ) (asked : Moment) (array : List ℕ) (r : ℕ) (array' : List ℕ) : Type 0 where
  pub listed : number k ≡ 0 → 7 * (size k + 1) ≤ length lent → FirstRow left (size k) asked array r array'
  pub refused_alike : (number k ≡ 0 → ⊥) → (r ≡ k) × (array' ≡ array)

-- of a list that is there
given_agrees :
    (t asked : Moment) (l lent left array array' : List ℕ) (k r : ℕ) → Lists (given (take (length lent / 7) l)) t lent k left →
    Nexts (first_after t asked l) array r array' → Agrees lent left k asked array r array'
given_agrees t asked l lent left array array' k r m n =
    let told : k ≡ 4294967296 * length (take (length lent / 7) l) = m.number_is in
    record {
      listed = λ z room.
          let cut : size k ≡ min (length lent / 7) (length l) = omega (arith, rw length-take at told) in
          let short : length l ≤ length lent / 7 = omega arith in
          let whole : take (length lent / 7) l ≡ l = take_all (length lent / 7) l short in
          let count : size k ≡ length l = omega (arith, rw whole at told) in
          let fits : 7 * length l ≤ length lent = omega arith in
          rw (m.array'_is, whole, rows_front t l lent fits, count, n.number_is, n.array'_is)
          (first_row t asked l (drop (7 * length l) lent) array);
      refused_alike = λ other. absurd (other (omega arith));
    }

-- of a refusal before the list
none_agrees :
    (t asked : Moment) (q : Refusal) (lent left array array' : List ℕ) (k r : ℕ) → Bounded 8 19 0 q → Lists (refused q) t lent k left →
    Nexts (refused q) array r array' → Agrees lent left k asked array r array'
none_agrees t asked q lent left array array' k r b m n = record {
  listed = λ z. absurd (omega (arith, b, m.number_is));
  refused_alike = λ other. (n.number_is ∙ sym m.number_is, n.array'_is);
}

-- "the first entry that the full list would have there", of both calls
pub next_listed :
    (s : List ℕ) (t asked : Moment) (lent left array array' : List ℕ) (k r : ℕ) → IsMoment asked → ListRule s t lent k left →
    NextRule s t asked array r array' → Agrees lent left k asked array r array'
next_listed s t asked lent left array array' k r v list next =
    by_start (is_moment t) (read_rule s) (rule_read_lem s) (list_says list) (rw (moment_passes v) at (next_says next))
  where
    by_days : (rule : Rule) (d : Answer (List ℕ)) → days_of rule t ≡ d → IsRule rule →
        Lists (and_then d (λ l. given (take (length lent / 7) l))) t lent k left → Nexts (and_then d (λ l. first_after t asked l)) array r array' →
        Agrees lent left k asked array r array'
    by_days rule (given l) e w m n = given_agrees t asked l lent left array array' k r m n
    by_days rule (refused q) e w m n =
        let bounds = rw e at (list_bounded rule t w (length lent)) in
        none_agrees t asked q lent left array array' k r (refusal_holds bounds refl) m n

    by_rule : (w : Answer Rule) → Holds IsRule (Bounded 18 18 0) w → Lists (and_then w (λ rule. list_of rule t (length lent))) t lent k left →
        Nexts (and_then w (λ rule. next_of rule t asked)) array r array' → Agrees lent left k asked array r array'
    by_rule (given rule) h m n = by_days rule (days_of rule t) refl (given_holds h refl) m (unfold next_of in n)
    by_rule (refused q) h m n =
        let b = refusal_holds h refl in
        none_agrees t asked q lent left array array' k r
        (record { least = omega (arith, b); most = omega (arith, b); start = b.start; within = b.within }) m n

    by_start : (valid : Bool) (w : Answer Rule) → Holds IsRule (Bounded 18 18 0) w →
        Lists (cond valid (and_then w (λ rule. list_of rule t (length lent))) (refuse InvalidMoment 0 0)) t lent k left →
        Nexts (cond (valid && true) (and_then w (λ rule. next_of rule t asked)) (refuse InvalidMoment 0 0)) array r array' →
        Agrees lent left k asked array r array'
    by_start true w h m n = by_rule w h m n
    by_start false w h m n =
        none_agrees t asked (refusal_at InvalidMoment 0 0) lent left array array' k r
        (record { least = omega arith; most = omega arith; start = omega arith; within = omega arith }) m n
