-- A duration is walked over its row of parts, first to last, whatever is carried along: a moment or a refusal, or steps.
use Prim.Native.Nat.{ℕ, suc, ◌+◌, ◌≤◌, ◌<◌}
use native.Mathlib.Numerals.{add-one}
use mathlib.Core.Path.{◌≡◌, refl, ap, ◌∙◌}
use mathlib.Core.Bool.{Bool}
use mathlib.Core.List.{List, [], ◌∷◌}
use lib.ListN.{length, get_or}
use lib.Seq.{slice, slice-cons}
use Rattle.std.proofs.Common.{take, drop, ◌-◌, sym, arith, drop-cons}
use Rattle.std.proofs.lemmas.List.{drop-take, drop_all}
use Rattle.refusals.specs.declared.Reason.{Reason}
use Rattle.calendar.specs.Moments.{Outcome, moment, refused, and_then}
use Rattle.calendar.specs.declared.moments.Moment.{Moment}
use Rattle.dates.specs.Durations.{Duration, part, concat}
use Rattle.dates.specs.declared.duration.Part.{Part}
use Rattle.dates.specs.declared.duration.Slot.{Slot}
use Rattle.phrase.specs.Chains.{blank_slot, duration_from, row_duration}
use Rattle.evaluation.specs.Steps.{part_step, duration_step}

-- the parts from one place up to another
pub cut : (i to : ℕ) (l : List Slot) → i < to → take (to - i) (drop i l) ≡ slice i to l
cut i to l h =
    let whole : i + (to - i) ≡ to = omega arith in
    sym (rw whole at (drop-take i (to - i) l))

-- what a part makes of what is carried along
module _ {X : Type 0} (by : Part → X → X) where
  -- what a duration makes of it
  abbrev pub over : Duration → X → X
  over (part p) x = by p x
  over (concat p d) x = over d (by p x)

  -- and a row of parts; a row of none leaves it
  abbrev pub over_row : List Slot → X → X
  over_row [] x = x
  over_row (s ∷ ss) x = over_row ss (by s.part x)

  -- a row of at least one part is its duration
  row_duration_lem : (s : Slot) (ss : List Slot) (x : X) → over (duration_from s ss) x ≡ over_row (s ∷ ss) x
  row_duration_lem s [] x = refl
  row_duration_lem s (y ∷ ys) x = row_duration_lem y ys (by s.part x)

  -- the first part from place i on, and then those behind it
  pub next_part : (l : List Slot) (i : ℕ) (x : X) → i < length l →
      over_row (drop i l) x ≡ over_row (drop (i + 1) l) (by (get_or l i blank_slot).part x)
  next_part l i x h = rw (add-one, drop-cons l i blank_slot h)

  -- a row with a part is its duration
  pub row_over : (l : List Slot) (x : X) → 0 < length l → over (row_duration l) x ≡ over_row l x
  row_over [] x h = absurd (omega arith)
  row_over (s ∷ ss) x h = row_duration_lem s ss x

  -- the rows within a longer one
  module _ (l : List Slot) (i to : ℕ) (x : X) where
    -- a row is its duration, where there is a part
    pub row_steps : i < to → to ≤ length l → over (row_duration (slice i to l)) x ≡ over_row (slice i to l) x
    row_steps h k = rw (slice-cons i to l blank_slot h k) (row_duration_lem (get_or l i blank_slot) (slice (suc i) to l) x)

-- a part from where a moment has led
abbrev pub parted : Bool → Part → Outcome → Outcome
parted back p o = and_then o (part_step back p)

-- a duration from there is the walk over its parts
duration_over : (back : Bool) (d : Duration) (o : Outcome) → and_then o (duration_step back d) ≡ over (parted back) d o
duration_over back (part p) o = refl
duration_over back (concat p d) (moment t) = duration_over back d (part_step back p t)
duration_over back (concat p d) (refused k) = duration_over back d (refused k)

-- so is that of a row with a part
row_walked : (back : Bool) (l : List Slot) (t : Moment) → 0 < length l → duration_step back (row_duration l) t ≡ over_row (parted back) l (moment t)
row_walked back l t h = duration_over back (row_duration l) (moment t) ∙ row_over (parted back) l (moment t) h

-- a refusal stays
row_stays : (back : Bool) (ss : List Slot) (k : Reason) → over_row (parted back) ss (refused k) ≡ refused k
row_stays back [] k = refl
row_stays back (s ∷ ss) k = row_stays back ss k

-- the walk over a row of parts, which has led from a moment to the one before part i
module _ (back : Bool) (l : List Slot) (i : ℕ) (begin t : Moment) (there : i < length l)
    (same_way : over_row (parted back) l (moment begin) ≡ over_row (parted back) (drop i l) (moment t)) where
  -- goes on where the part leads
  pub row_on : (o : Outcome) → o ≡ part_step back (get_or l i blank_slot).part t →
      over_row (parted back) l (moment begin) ≡ over_row (parted back) (drop (i + 1) l) o
  row_on o e = same_way ∙ next_part (parted back) l i (moment t) there ∙ ap (over_row (parted back) (drop (i + 1) l)) (sym e)

  -- and ends where the part is refused
  pub row_refused : (k : Reason) → refused k ≡ part_step back (get_or l i blank_slot).part t → refused k ≡ duration_step back (row_duration l) begin
  row_refused k e =
      let some : 0 < length l = omega arith in
      sym (row_walked back l begin some ∙ row_on (refused k) e ∙ row_stays back (drop (i + 1) l) k)

-- a row that is walked to its end
pub row_done : (back : Bool) (l : List Slot) (i : ℕ) (begin t : Moment) → 0 < length l → length l ≤ i →
    over_row (parted back) l (moment begin) ≡ over_row (parted back) (drop i l) (moment t) → moment t ≡ duration_step back (row_duration l) begin
row_done back l i begin t some end e = sym (row_walked back l begin some ∙ e ∙ rw (drop_all i l end))
