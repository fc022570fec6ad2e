-- Whether a step encodes to a record's numbers, by its kind alone: no step has to be made and encoded again. Assumes nothing.
use Prim.Native.Nat.{ℕ, zero, suc, ◌+◌, ◌*◌, ◌/◌, ◌%◌, ◌≤◌, ◌<◌}
use native.Mathlib.Omega.{arith}
use Rattle.std.proofs.lemmas.Bool.Decides.{nat_tests}
use native.Mathlib.Nat.{eq-or-lt_of_le}
use mathlib.Core.Path.{◌≡◌, subst}
use mathlib.Core.Bool.{◌&&◌}
use mathlib.Core.Logic.{⊎_elim}
use lib.Dec.{ltb}
use Rattle.records.specs.Words.{words, wide, step_from}
use Rattle.records.specs.Records.{is_record}
use Rattle.records.specs.Kinds.{forms_of, may_have}

-- what holds of each number below n
abbrev Below : (ℕ → Type 0) → ℕ → Type 0
Below P zero = Unit {0}
Below P (suc n) = Below P n × P n

-- and of all from n on, holds of every number
each : (P : ℕ → Type 0) (n : ℕ) → Below P n → ((k : ℕ) → n ≤ k → P k) → (k : ℕ) → P k
each P zero b h k = h k (omega arith)
each P (suc n) b h k = each P n b.0 (λ j l. ⊎_elim (λ e. subst P e b.1) (λ m. h j m) (eq-or-lt_of_le l)) k

-- the test by kind is the test by encoding
abbrev Tested : ℕ → Type 0
Tested k = (f a b c : ℕ) → a < wide → is_record (words k f a b c) ≡ (ltb f (forms_of k) && may_have k f a b c)

-- no kind
of_0 : Tested 0
unfolding step_from
of_0 f a b c h = grind (arith, nat_tests)

-- a start without numbers
of_1 : Tested 1
unfolding step_from
of_1 f a b c h = grind (arith, nat_tests)

of_2 : Tested 2
unfolding step_from
of_2 f a b c h = grind (arith, nat_tests)

-- a date
of_3 : Tested 3
unfolding step_from
of_3 f a b c h = grind (arith, nat_tests)

-- a weekday of a week
of_4 : Tested 4
unfolding step_from
of_4 f a b c h = grind (arith, nat_tests)

-- one number and one form
of_5 : Tested 5
unfolding step_from
of_5 f a b c h = grind (arith, nat_tests)

of_9 : Tested 9
unfolding step_from
of_9 f a b c h = grind (arith, nat_tests)

of_11 : Tested 11
unfolding step_from
of_11 f a b c h = grind (arith, nat_tests)

-- a direction, and minutes in two numbers
of_6 : Tested 6
unfolding step_from
of_6 f a b c h =
    let low : (a + wide * b) % wide ≡ a = omega arith in
    let high : (a + wide * b) / wide ≡ b = omega arith in
    rw (low, high) (grind (arith, nat_tests))

of_7 : Tested 7
unfolding step_from
of_7 f a b c h = grind (arith, nat_tests)

of_8 : Tested 8
unfolding step_from
of_8 f a b c h = grind (arith, nat_tests)

-- a time of day
of_10 : Tested 10
unfolding step_from
of_10 f a b c h = grind (arith, nat_tests)

-- no kind from 12 on
no_kind : (k : ℕ) → 12 ≤ k → Tested k
unfolding step_from
no_kind k i f a b c h = grind (arith, nat_tests)

-- so it is for every record
pub by_kind : (k : ℕ) → Tested k
by_kind =
    each Tested 12
    ((((((((((((tt, of_0), of_1), of_2), of_3), of_4), of_5), of_6), of_7), of_8), of_9), of_10), of_11)
    no_kind
