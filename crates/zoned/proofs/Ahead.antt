-- Ahead of its time of day a list is walked as at a fixed offset; what that gives is settled, and the rest is walked in the zone.
use Prim.Native.Nat.{ℕ, zero, suc, ◌+◌, ◌-◌, ◌*◌, ◌/◌, ◌≤◌}
use native.Mathlib.Omega.{arith}
use native.Mathlib.Nat.{add-zero, zero-add, sub-zero, not-suc-le-zero}
use mathlib.Core.Path.{◌≡◌, refl, ap, sym, ◌∙◌}
use mathlib.Core.Bool.{true, false, false≢true}
use mathlib.Core.List.{List, [], ◌∷◌}
use borrow.Author.Tests.{eq-eqb, ne_eqb}
use lib.ListN.{length, take, drop}
use Rattle.calendar.specs.Moments.{Reach, moment, refused, and_then, Outcome}
use Rattle.calendar.specs.declared.moments.Moment.{Moment}
use Rattle.calendar.proofs.Outcomes.{then_moment}
use Rattle.evaluation.specs.Times.{time_at}
use Rattle.steps.specs.Running.{start_at, move_by, walk_of, walk_in, times_due, is_list, is_dated, ahead_in, lead_in}
use Rattle.steps.specs.declared.plan.Step.{Step}
use Rattle.steps.specs.declared.plan.Step.TheVariants.{From, By, AtTime}
use Rattle.records.specs.Words.{step_from}
use Rattle.records.specs.Records.{words_at, steps_at, decode_of}
use Rattle.records.proofs.Runs.{all_steps}
use Rattle.tzif.specs.Zones.{Zone}
use Rattle.zones.specs.Instants.{clock_of, instant_at}
use Rattle.zones.specs.declared.instants.Instant.{Instant}
use Rattle.zoned.specs.InZone.{in_zone}
use Rattle.zoned.specs.Kinds.{up_to_time}

module _ (z : Zone) where
  -- a step ahead of the time, where the rest is split
  one-ahead :
      (a : Outcome) (ahead : Moment → Reach Instant) (walked : Moment → Outcome) (rest : Instant → Reach Instant) →
      ((t : Moment) → ahead t ≡ and_then (and_then (walked t) (instant_at z)) rest) →
      and_then a ahead ≡ and_then (and_then (and_then a walked) (instant_at z)) rest
  one-ahead (moment t) ahead walked rest e = e t
  one-ahead (refused k) ahead walked rest e = refl

  pub ahead_split :
      (ss : List Step) (n : Instant) (t : Moment) →
      ahead_in (in_zone z) ss n t
      ≡ and_then (and_then (walk_of (take (up_to_time ss) ss) (clock_of z n) t) (instant_at z)) (walk_in (in_zone z) (drop (up_to_time ss) ss) n)
  ahead_split [] n t = sym (then_moment (instant_at z t))
  ahead_split (From s ∷ ss) n t =
      one-ahead (start_at s t) (ahead_in (in_zone z) ss n) (walk_of (take (up_to_time ss) ss) (clock_of z n))
      (walk_in (in_zone z) (drop (up_to_time ss) ss) n) (ahead_split ss n)
  ahead_split (By m ∷ ss) n t =
      one-ahead (move_by m t) (ahead_in (in_zone z) ss n) (walk_of (take (up_to_time ss) ss) (clock_of z n))
      (walk_in (in_zone z) (drop (up_to_time ss) ss) n) (ahead_split ss n)
  ahead_split (AtTime time ∷ ss) n t =
      ap (λ (o : Outcome). and_then (and_then o (instant_at z)) (walk_in (in_zone z) ss n)) (sym (then_moment (time_at time (clock_of z n) t)))

-- the first steps of records, and those behind them
pub take_steps : (u m : ℕ) (l : List ℕ) (at : ℕ) → u ≤ m → take u (steps_at m l at) ≡ steps_at u l at
take_steps zero m l at h = refl
take_steps (suc u) zero l at h = absurd (not-suc-le-zero h)
take_steps (suc u) (suc m) l at h = rw (take_steps u m l (at + 16) (omega arith))

pub drop-steps : (u m : ℕ) (l : List ℕ) (at : ℕ) → u ≤ m → drop u (steps_at m l at) ≡ steps_at (m - u) l (at + 16 * u)
drop-steps zero m l at h = rw (sub-zero m, add-zero at)
drop-steps (suc u) zero l at h = absurd (not-suc-le-zero h)
drop-steps (suc u) (suc m) l at h =
    let there : at + 16 + 16 * u ≡ at + 16 * suc u = omega arith in
    let left : m - u ≡ suc m - suc u = omega arith in
    drop-steps u m l (at + 16) (omega arith) ∙ rw (there, left)

-- a slice that stands for a list has a first step, and the others behind it
first_of : (l : List ℕ) → is_list (decode_of l) ≡ true → steps_at (length l / 16) l 0 ≡ step_from (words_at l 0) ∷ steps_at (length l / 16 - 1) l 16
first_of l h = go (length l / 16) (ap is_list (sym (all_steps l h)) ∙ h)
  where
    go : (m : ℕ) → is_list (steps_at m l 0) ≡ true → steps_at m l 0 ≡ step_from (words_at l 0) ∷ steps_at (m - 1) l 16
    go zero e = absurd (false≢true e)
    go (suc m) e = let left : suc m - 1 ≡ m = omega arith in rw left

-- so it has a record
pub some_record : (l : List ℕ) → is_list (decode_of l) ≡ true → 16 ≤ length l
some_record l h = go (length l / 16) refl (ap is_list (sym (all_steps l h)) ∙ h)
  where
    go : (m : ℕ) → length l / 16 ≡ m → is_list (steps_at m l 0) ≡ true → 16 ≤ length l
    go zero k e = absurd (false≢true e)
    go (suc m) k e = omega arith

-- where a list leads, by its first step
module _ (z : Zone) (l : List ℕ) (h : is_list (decode_of l) ≡ true) (n : Instant) where
  -- from a date: u steps up to the time of day, and those behind it
  pub lead_dated :
      (u : ℕ) → u ≡ up_to_time (steps_at (length l / 16) l 0) → 16 * u ≤ length l → times_due (step_from (words_at l 0)) ≡ 1 →
      lead_in (in_zone z) (decode_of l) n
      ≡ and_then (and_then (walk_of (steps_at u l 0) (clock_of z n) (clock_of z n)) (instant_at z)) (walk_in (in_zone z) (steps_at (length l / 16 - u) l (16 * u)) n)
  lead_dated u e few due =
      let ss = steps_at (length l / 16) l 0 in
      let some : u ≤ length l / 16 = omega arith in
      let dated : is_dated ss ≡ true = rw (first_of l h, eq-eqb _ 1 due) in
      let split = rw (← e, take_steps u (length l / 16) l 0 some, drop-steps u (length l / 16) l 0 some, zero-add) at (ahead_split z ss n (clock_of z n)) in
      rw (all_steps l h, dated) split

  -- from now
  pub lead_now : (times_due (step_from (words_at l 0)) ≡ 1 → ⊥) → lead_in (in_zone z) (decode_of l) n ≡ walk_in (in_zone z) (steps_at (length l / 16 - 0) l 0) n n
  lead_now other =
      let undated : is_dated (steps_at (length l / 16) l 0) ≡ false = rw (first_of l h, ne_eqb _ 1 other) in
      rw (all_steps l h, undated, sub-zero)
