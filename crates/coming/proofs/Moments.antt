-- The first day at or after a moment: by instants and by days it is the same.
use mathlib.Core.Path.{◌≡◌, refl}
use mathlib.Core.Bool.{Bool, true, false, cond}
use mathlib.Core.Logic.{⊎_elim}
use mathlib.Core.List.{List, ◌∷◌, []}
use lib.Dec.{leb, ltb}
use Rattle.std.proofs.Common.{Some}
use Prim.Native.Nat.{ℕ, ◌+◌, ◌*◌, ◌≤◌, ◌<◌}
use native.Mathlib.Omega.{arith}
use borrow.Author.Tests.{le-leb, lt-leb, le-ltb, lt-ltb}
use Rattle.refusals.specs.Answers.{given}
use Rattle.calendar.specs.Moments.{IsMoment, day_of_moment, at_day, instant_of}
use Rattle.calendar.specs.declared.moments.Moment.{Moment}
use Rattle.calendar.proofs.Dates.{day_date}
use Rattle.digits.proofs.Order.{le-or_lt}
use Rattle.repeats.specs.Held.{one}
use Rattle.repeats.specs.Occurrences.{time_of_day}
use Rattle.coming.specs.Next.{first_after, asked_day, first_at, moment_or}

-- a moment's instant is its day's and its time of day
instant : (t : Moment) → instant_of t ≡ 86400000 * day_of_moment t + time_of_day t
instant t = omega arith

-- the instant of the same time on day n
on_day_lem : (n : ℕ) (t : Moment) → instant_of (at_day n t) ≡ 86400000 * n + time_of_day t
on_day_lem n t = rw (day_date n) (omega arith)

-- a day is longer than any time of it
in_day : (t : Moment) → IsMoment t → time_of_day t < 86400000
in_day t v = omega (arith, v.time)

-- days of one length, each with a time before its end
ordered : (a x b y : ℕ) → x < 86400000 → y < 86400000 → leb (86400000 * a + x) (86400000 * b + y) ≡ leb (a + one (ltb y x)) b
ordered a x b y h g = ⊎_elim same later (le-or_lt x y)
  where
    same : x ≤ y → leb (86400000 * a + x) (86400000 * b + y) ≡ leb (a + one (ltb y x)) b
    same p = rw (le-ltb y x p)
        (⊎_elim (λ (q : a ≤ b). rw (le-leb (86400000 * a + x) (86400000 * b + y) (omega arith), le-leb (a + 0) b (omega arith)))
        (λ (q : b < a). rw (lt-leb (86400000 * a + x) (86400000 * b + y) (omega arith), lt-leb (a + 0) b (omega arith))) (le-or_lt a b))

    later : y < x → leb (86400000 * a + x) (86400000 * b + y) ≡ leb (a + one (ltb y x)) b
    later p = rw (lt-ltb y x p)
        (⊎_elim (λ (q : a + 1 ≤ b). rw (le-leb (86400000 * a + x) (86400000 * b + y) (omega arith), le-leb (a + 1) b q))
        (λ (q : b < a + 1). rw (lt-leb (86400000 * a + x) (86400000 * b + y) (omega arith), lt-leb (a + 1) b q)) (le-or_lt (a + 1) b))

-- so the asked moment is reached exactly from its day on, or from the day after where its time is past the start's
pub reached : (t asked : Moment) (n : ℕ) → IsMoment t → IsMoment asked → leb (instant_of asked) (instant_of (at_day n t)) ≡ leb (asked_day t asked) n
reached t asked n v w = rw (instant asked, on_day_lem n t) (ordered (day_of_moment asked) (time_of_day asked) n (time_of_day t) (in_day asked w) (in_day t v))

-- and the first moment of a list is that of its first day
pub first_day : (t asked : Moment) (l : List ℕ) → IsMoment t → IsMoment asked → first_after t asked l ≡ moment_or t (first_at (asked_day t asked) l)
unfolding first_after first_at
first_day t asked [] v w = refl
first_day t asked (n ∷ l) v w = rw (reached t asked n v w, first_day t asked l v w) (go (leb (asked_day t asked) n))
  where
    go : (c : Bool) → cond c (given (at_day n t)) (moment_or t (first_at (asked_day t asked) l)) ≡ moment_or t (cond c (Some n) (first_at (asked_day t asked) l))
    go true = refl
    go false = refl
