-- What comes next has its refusals without a place, so that their numbers are all that is told. Assumes nothing.
use Prim.Native.Nat.{ℕ, ◌≤◌}
use native.Mathlib.Omega.{arith}
use mathlib.Core.Path.{◌≡◌, refl}
use mathlib.Core.Bool.{Bool, true, false, cond, ◌&&◌}
use mathlib.Core.List.{List, [], ◌∷◌}
use lib.Dec.{leb}
use Rattle.refusals.specs.Table.{number_of}
use Rattle.refusals.specs.declared.Reason.{Reason}
use Rattle.refusals.specs.declared.Reason.TheVariants.{InvalidMoment, NoStart, NoNext}
use Rattle.refusals.specs.Answers.{Answer, given, refusal_at, refuse, and_then}
use Rattle.refusals.proofs.Holds.{Holds, of_given, of_refusal, Bounded}
use Rattle.calendar.specs.Moments.{is_moment, at_day, instant_of, reached_of}
use Rattle.calendar.specs.declared.moments.Moment.{Moment}
use Rattle.rules.specs.Rule.{IsRule}
use Rattle.rules.specs.Rules.{read_rule}
use Rattle.rules.specs.declared.Rule.{Rule}
use Rattle.rules.proofs.Ruled.{rule_read_lem}
use Rattle.repeats.specs.Occurrences.{occurrences, start_fits, days_of}
use Rattle.coming.specs.Next.{first_after, next_of, answered}
use Rattle.answer.specs.Answer.{placed}
use Rattle.fuzzydate.specs.Called.{next_in}

-- a moment, or a refusal of 8 to 20 without a place
abbrev AnyMoment : Moment → Type 0
AnyMoment t = Unit

abbrev Told : Answer Moment → Type 0
Told w = Holds AnyMoment (Bounded 8 20 0) w

plain : (k : Reason) → 8 ≤ number_of k → number_of k ≤ 20 → Told (refuse k 0 0)
plain k low high = of_refusal {r = refusal_at k 0 0} (record { least = low; most = high; start = omega arith; within = omega arith })

first_told : (t asked : Moment) (l : List ℕ) → Told (first_after t asked l)
unfolding first_after
first_told t asked [] = plain NoNext (omega arith) (omega arith)
first_told t asked (n ∷ l) = go (first_told t asked l) (leb (instant_of asked) (instant_of (at_day n t)))
  where
    go : Told (first_after t asked l) → (b : Bool) → Told (cond b (given (at_day n t)) (first_after t asked l))
    go rest true = of_given tt
    go rest false = rest

next_told : (r : Rule) (t asked : Moment) → Told (next_of r t asked)
unfolding next_of days_of
next_told r t asked = go (start_fits r t)
  where
    go : (b : Bool) → Told (and_then (cond b (given (occurrences r t)) (refuse NoStart 0 0)) (λ l. first_after t asked l))
    go true = first_told t asked (occurrences r t)
    go false = plain NoStart (omega arith) (omega arith)

told : (s : List ℕ) (t asked : Moment) → Told (next_in s t asked)
told s t asked = go (is_moment t && is_moment asked) (read_rule s) (rule_read_lem s)
  where
    go : (b : Bool) (w : Answer Rule) → Holds IsRule (Bounded 18 18 0) w →
        Told (cond b (and_then w (λ r. next_of r t asked)) (refuse InvalidMoment 0 0))
    go false w h = plain InvalidMoment (omega arith) (omega arith)
    go true w (of_given {x} v) = next_told x t asked
    go true w (of_refusal {r} b) =
        of_refusal {r = r} (record { least = omega (arith, b); most = omega (arith, b); start = b.start; within = b.within })

-- the answer is what its moment, or its refusal's number, says
pub told_whole : (s : List ℕ) (t asked : Moment) → placed (reached_of (answered (next_in s t asked))) ≡ next_in s t asked
told_whole s t asked = go (next_in s t asked) (told s t asked)
  where
    go : (w : Answer Moment) → Told w → placed (reached_of (answered w)) ≡ w
    go w (of_given p) = refl
    go w (of_refusal {r} b) =
        let place : r.place ≡ 0 = omega (arith, b) in
        let end : r.end ≡ 0 = omega (arith, b) in
        rw (place, end)
