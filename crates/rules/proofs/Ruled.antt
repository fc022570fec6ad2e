-- A rule that is read has an INTERVAL of 1 to 999, and a COUNT of at least 1 or an UNTIL of the calendar; any other text is 18.
use mathlib.Core.Path.{◌≡◌, refl}
use mathlib.Core.Bool.{Bool, true, false, ◌&&◌, cond, and-eq-true_iff}
use mathlib.Core.List.{List, [], ◌∷◌}
use Prim.Native.Nat.{ℕ, ◌≤◌}
use Prim.Native.Char.{code}
use Prim.Native.String.{String}
use native.Mathlib.Omega.{arith}
use lib.Dec.{ltb, leb}
use lib.ListN.{drop}
use borrow.Author.Tests.{ltb-true, leb-true}
use Rattle.std.proofs.Common.{Option, Some, None}
use Rattle.std.specs.Option.{option_map, option_and_then, unwrap_or}
use Rattle.refusals.specs.declared.Reason.TheVariants.{NoRule}
use Rattle.refusals.specs.Answers.{refusal_at}
use Rattle.refusals.proofs.Holds.{Holds, of_given, of_refusal, Bounded as Numbered}
use Rattle.digits.specs.Bytes.{bytes_of}
use Rattle.digits.specs.Forms.{of_form}
use Rattle.calendar.specs.Moments.{is_date, is_moment}
use Rattle.calendar.proofs.Valid.{test_date, test_moment}
use Rattle.rules.specs.Cut.{pieces}
use Rattle.rules.specs.Numbers.{number_in, number_to, without_plus}
use Rattle.rules.specs.Days.{days_in}
use Rattle.rules.specs.Untils.{count_in, until_in, year_at, day_in, moment_at, moment_in}
use Rattle.digits.specs.Digits.{two_at}
use Rattle.rules.specs.Parts.{named, week_part, month_part, day_part, until_part, count_part, part_of}
use Rattle.rules.specs.Rule.{IsBound, IsRule}
use Rattle.rules.specs.Rules.{begun, draft_of, takes, placed, put, rule_in, read_parts, read_pieces, rule_answer, read_rule}
use Rattle.rules.specs.declared.Bound.{Bound}
use Rattle.rules.specs.declared.Rule.{Rule}
use Rattle.rules.specs.declared.Bound.TheVariants.{Endless, Count, UntilDay, UntilMoment}
use Rattle.rules.specs.declared.Freq.{Freq}
use Rattle.rules.specs.declared.Freq.TheVariants.{Daily, Weekly, Monthly}
use Rattle.rules.specs.declared.part.Part.{Part}
use Rattle.rules.specs.declared.part.Part.TheVariants.{Interval, Bounded, Days, Day, Monday}
use Rattle.rules.specs.declared.draft.Draft.{Draft}

-- what is read, where it is read, has a property
abbrev Read : {A : Type 0} → (A → Type 0) → Option A → Type 0
Read P None = Unit
Read P (Some x) = P x

-- one of two, by a test
by_test : {A : Type 0} (P : A → Type 0) (b : Bool) (x y : A) → (b ≡ true → P x) → (b ≡ false → P y) → P (cond b x y)
by_test P true x y f g = f refl
by_test P false x y f g = g refl

-- what is made of what is read
made : {A B : Type 0} (P : A → Type 0) (Q : B → Type 0) (f : A → B) (x : Option A) → Read P x → ((a : A) → P a → Q (f a)) → Read Q (option_map f x)
made P Q f None h on = tt
made P Q f (Some a) h on = on a h

then_read : {A B : Type 0} (P : A → Type 0) (Q : B → Type 0) (f : A → Option B) (x : Option A) → Read P x → ((a : A) → P a → Read Q (f a))
    → Read Q (option_and_then f x)
then_read P Q f None h on = tt
then_read P Q f (Some a) h on = on a h

-- a number from 1 to its limit
number_is : (m : ℕ) (s : List ℕ) → Read (λ n. (1 ≤ n) × (n ≤ m)) (number_to m s)
unfolding number_to
number_is m s =
    let n = number_in s in
    by_test (Read (λ n. (1 ≤ n) × (n ≤ m))) (ltb 0 n && leb n m) (Some n) None
    (λ e. let both = (and-eq-true_iff (ltb 0 n) (leb n m)).0 e in (ltb-true 0 n both.0, leb-true n m both.1)) (λ e. tt)

count_is : (s : List ℕ) → Read IsBound (count_in s)
unfolding count_in
count_is s = made _ IsBound Count (number_to 4294967295 s) (number_is 4294967295 s) (λ n h. h.0)

until_is : (s : List ℕ) → Read IsBound (until_in s)
unfolding until_in
until_is s =
    by_test (Read IsBound) (of_form (bytes_of "00000000") s) (day_in s) (cond (of_form (bytes_of "00000000T000000") s) (moment_in s) None) (λ e. day)
    (λ e. by_test (Read IsBound) (of_form (bytes_of "00000000T000000") s) (moment_in s) None (λ e. moment) (λ e. tt))
  where
    day : Read IsBound (day_in s)
    day =
        by_test (Read IsBound) (is_date (year_at s) (two_at s 4) (two_at s 6)) (Some (UntilDay (year_at s) (two_at s 4) (two_at s 6))) None
        (test_date (year_at s) (two_at s 4) (two_at s 6)) (λ e. tt)

    moment : Read IsBound (moment_in s)
    moment = by_test (Read IsBound) (is_moment (moment_at s)) (Some (UntilMoment (moment_at s))) None (test_moment (moment_at s)) (λ e. tt)

-- what a part has for a rule
abbrev IsPart : Part → Type 0
IsPart (Interval n) = (1 ≤ n) × (n ≤ 999)
IsPart (Bounded b) = IsBound b
IsPart (Days n) = Unit
IsPart (Day n) = Unit
IsPart Monday = Unit

part_is : (p : List ℕ) → Read IsPart (part_of p)
unfolding part_of
part_is p =
    by_test (Read IsPart) (named (bytes_of "INTERVAL=") p) (option_map Interval (number_to 999 (drop 9 p))) (count_part p)
    (λ e. made _ IsPart Interval (number_to 999 (drop 9 p)) (number_is 999 (drop 9 p)) (λ n h. h))
    (λ e. by_test (Read IsPart) (named (bytes_of "COUNT=") p) (option_map Bounded (count_in (drop 6 p))) (until_part p)
    (λ e. made IsBound IsPart Bounded (count_in (drop 6 p)) (count_is (drop 6 p)) (λ b h. h))
    (λ e. by_test (Read IsPart) (named (bytes_of "UNTIL=") p) (option_map Bounded (until_in (drop 6 p))) (day_part p)
    (λ e. made IsBound IsPart Bounded (until_in (drop 6 p)) (until_is (drop 6 p)) (λ b h. h))
    (λ e. by_test (Read IsPart) (named (bytes_of "BYDAY=") p) (option_map Days (days_in (drop 6 p))) (month_part p)
    (λ e. free Days (days_in (drop 6 p)) (λ n. tt))
    (λ e. by_test (Read IsPart) (named (bytes_of "BYMONTHDAY=") p) (option_map Day (number_to 31 (without_plus (drop 11 p)))) (week_part p)
    (λ e. free Day (number_to 31 (without_plus (drop 11 p))) (λ n. tt))
    (λ e. by_test (Read IsPart) (of_form (bytes_of "WKST=MO") p) (Some Monday) None (λ e. tt) (λ e. tt))))))
  where
    free : (f : ℕ → Part) (x : Option ℕ) → ((n : ℕ) → IsPart (f n)) → Read IsPart (option_map f x)
    free f None h = tt
    free f (Some n) h = h n

-- a draft on the way to a rule
record IsDraft (d : Draft) : Type 0 where
  interval : Read (λ n. (1 ≤ n) × (n ≤ 999)) d.interval
  bound : Read IsBound d.bound

placed_is : (d : Draft) (p : Part) → IsDraft d → IsPart p → IsDraft (placed d p)
placed_is d (Interval n) v w = record { interval = w; bound = v.bound }
placed_is d (Bounded b) v w = record { interval = v.interval; bound = w }
placed_is d (Days n) v w = record { interval = v.interval; bound = v.bound }
placed_is d (Day n) v w = record { interval = v.interval; bound = v.bound }
placed_is d Monday v w = record { interval = v.interval; bound = v.bound }

put_is : (d : Draft) (p : Part) → IsDraft d → IsPart p → Read IsDraft (put d p)
put_is d p v w = by_test (Read IsDraft) (takes d p) (Some (placed d p)) None (λ e. placed_is d p v w) (λ e. tt)

rule_is : (d : Draft) → IsDraft d → IsRule (rule_in d)
rule_is d v = record { least = (some d.interval v.interval).0; most = (some d.interval v.interval).1; bound = ended d.bound v.bound }
  where
    some : (x : Option ℕ) → Read (λ n. (1 ≤ n) × (n ≤ 999)) x → (1 ≤ unwrap_or x 1) × (unwrap_or x 1 ≤ 999)
    some None h = (omega arith, omega arith)
    some (Some n) h = h

    ended : (x : Option Bound) → Read IsBound x → IsBound (unwrap_or x Endless)
    ended None h = tt
    ended (Some b) h = h

parts_are : (d : Draft) (ps : List (List ℕ)) → IsDraft d → Read IsRule (read_parts d ps)
parts_are d [] v = rule_is d v
parts_are d (p ∷ ps) v =
    then_read IsDraft IsRule (λ e. read_parts e ps) (option_and_then (put d) (part_of p))
    (then_read IsPart IsDraft (put d) (part_of p) (part_is p) (λ q w. put_is d q v w)) (λ e w. parts_are e ps w)

begun_is : (p : List ℕ) → Read IsDraft (begun p)
unfolding begun
begun_is p = named_by "FREQ=DAILY" Daily _ (named_by "FREQ=WEEKLY" Weekly _ (named_by "FREQ=MONTHLY" Monthly None tt))
  where
    named_by : (name : String) (f : Freq) (other : Option Draft) → Read IsDraft other
        → Read IsDraft (cond (of_form (bytes_of name) p) (Some (draft_of f)) other)
    named_by name f other h =
        by_test (Read IsDraft) (of_form (bytes_of name) p) (Some (draft_of f)) other (λ e. record { interval = tt; bound = tt }) (λ e. h)

-- what is read is a rule, or 18
pub rule_read_lem : (s : List ℕ) → Holds IsRule (Numbered 18 18 0) (read_rule s)
unfolding read_rule
rule_read_lem s = go (pieces (code ";") s)
  where
    told : (x : Option Rule) → Read IsRule x → Holds IsRule (Numbered 18 18 0) (rule_answer x)
    told None h = of_refusal {r = refusal_at NoRule 0 0} (record { least = omega arith; most = omega arith; start = omega arith; within = omega arith })
    told (Some r) h = of_given h

    go : (ps : List (List ℕ)) → Holds IsRule (Numbered 18 18 0) (rule_answer (read_pieces ps))
    go [] = told None tt
    go (p ∷ ps) =
        told (read_pieces (p ∷ ps)) (then_read IsDraft IsRule (λ d. read_parts d ps) (begun p) (begun_is p) (λ d v. parts_are d ps v))
