-- What a world is: what a civil moment and a fixed length mean there. A fixed offset is one world; a zone, whose clocks change, is another.
use Rattle.std.specs.Prelude.{ℕ, ◌+◌, ◌≡◌, Bool}
use Rattle.refusals.specs.declared.Reason.{Reason}
use Rattle.calendar.specs.Moments.{Reach, moment, refused, and_then, Outcome, minutes_step}
use Rattle.calendar.specs.declared.moments.Moment.{Moment}

-- a world whose moments are S: the civil moment that its clocks show, what becomes of a civil answer there, and what so many minutes do, back or on
pub record World (S : Type 0) : Type 0 where
  pub civil : S → Moment
  pub settle : Outcome → Reach S
  pub fixed : Bool → ℕ → S → Reach S

-- the world of a fixed offset: its moments are the civil ones
abbrev pub offset : World Moment
offset = record { civil = λ t. t; settle = λ o. o; fixed = minutes_step }

-- what a world has to keep, where `Good` holds of every moment that is reached: a refusal stays, and from a good moment a fixed length is
-- its two parts one behind the other, with the same refusal
pub record Lawful {S : Type 0} (w : World S) (Good : S → Type 0) : Type 0 where
  pub refusal_stays : (k : Reason) → w.settle (refused k) ≡ refused k
  pub settle_good : (o : Outcome) (x : S) → w.settle o ≡ moment x → Good x
  pub fixed_good : (back : Bool) (k : ℕ) (x y : S) → Good x → w.fixed back k x ≡ moment y → Good y
  pub joins : (back : Bool) (a b : ℕ) (x : S) → Good x → w.fixed back (a + b) x ≡ and_then (w.fixed back a x) (w.fixed back b)
