-- Every text is a stamp of the years 1 to 9999, or of year 0000, or none. Assumes nothing.
use Prim.Native.Nat.{ℕ, ◌+◌, ◌*◌, ◌≤◌}
use Prim.Native.Char.{code}
use native.Mathlib.Omega.{arith}
use mathlib.Core.Path.{◌≡◌, refl}
use mathlib.Core.Bool.{Bool, true, false, ◌&&◌, cond, and-eq-true_iff}
use mathlib.Core.List.{List}
use lib.Dec.{eqb}
use lib.ListN.{take, drop, get_or, take-append-drop}
use borrow.Author.Tests.{eqb-true, eqb-false, le-leb}
use Rattle.refusals.specs.declared.Reason.TheVariants.{Outside, NoStamp}
use Rattle.refusals.specs.Answers.{Answer, given, refuse}
use Rattle.digits.specs.Digits.{two_at}
use Rattle.calendar.specs.Moments.{IsMoment, is_day_of_month, is_date, is_time}
use Rattle.calendar.proofs.Again.{year_most}
use Rattle.calendar.proofs.Valid.{test_date, test_time}
use Rattle.stamp.specs.Grammar.{date_time, is_of}
use Rattle.stamp.specs.Stamps.{IsOffset, offset_place, has_numoffset, offset_in, offset_exists, moment_exists, stamp_in, stamp_of, zulu}
use Rattle.stamp.specs.declared.Stamp.{Stamp}
use Rattle.stamp.proofs.Grammar.{parts}

-- a text of the grammar whose date, time and offset exist
pub record Exists (s : List ℕ) : Type 0 where
  pub form : is_of date_time s ≡ true
  pub moment : moment_exists (stamp_in s).moment ≡ true
  pub offset : offset_exists (drop (offset_place s) s) ≡ true

-- such a text says a moment of the years 1 to 9999, if its year is not 0000
is_moment_lem : (s : List ℕ) → Exists s → ((stamp_in s).moment.year ≡ 0 → ⊥) → IsMoment (stamp_in s).moment
unfolding is_date
is_moment_lem s h some =
    let t = (stamp_in s).moment in
    let both = (and-eq-true_iff (is_day_of_month t.year t.month t.day) _).0 h.moment in
    let most : t.year ≤ 9999 = rw take-append-drop at (year_most (code "T") t.millisecond (take 19 s) (drop 19 s) (parts s h.form).moment) in
    let least : 1 ≤ t.year = omega (arith, some) in
    record {
      date = test_date _ _ _ (rw (le-leb 1 t.year least, le-leb t.year 9999 most) both.0);
      time = test_time _ _ _ _ both.1;
    }

-- and an offset
is_offset_lem : (u : List ℕ) → offset_exists u ≡ true → IsOffset (offset_in u)
is_offset_lem u = go (has_numoffset u) (eqb (get_or u 0 0) (code "-"))
  where
    go : (a b : Bool) → cond a (is_time (two_at u 1) (two_at u 4) 0 0) true ≡ true
        → IsOffset (cond a (record { west = cond b 1 0; minutes = 60 * two_at u 1 + two_at u 4 }) zulu)
    go false b e = record { west = omega arith; minutes = omega arith }
    go true true e = let time = test_time _ _ _ _ e in record { west = omega arith; minutes = omega arith }
    go true false e = let time = test_time _ _ _ _ e in record { west = omega arith; minutes = omega arith }

-- how a text is read: 14 for all but those, and 12 for year 0000 among them
pub data Reading (s : List ℕ) (a : Answer Stamp) : Type 0 where
  stamp : Exists s → IsMoment (stamp_in s).moment → IsOffset (stamp_in s).offset → a ≡ given (stamp_in s) → Reading s a
  year_zero : Exists s → (stamp_in s).moment.year ≡ 0 → a ≡ refuse Outside 0 0 → Reading s a
  no_stamp : (Exists s → ⊥) → a ≡ refuse NoStamp 0 0 → Reading s a

pub one_of_three : (s : List ℕ) → Reading s (stamp_of s)
unfolding stamp_of
one_of_three s =
    go (is_of date_time s) refl (moment_exists (stamp_in s).moment) refl (offset_exists (drop (offset_place s) s)) refl
    (eqb (stamp_in s).moment.year 0) refl
  where
    go : (a : Bool) → is_of date_time s ≡ a → (b : Bool) → moment_exists (stamp_in s).moment ≡ b →
        (c : Bool) → offset_exists (drop (offset_place s) s) ≡ c → (d : Bool) → eqb (stamp_in s).moment.year 0 ≡ d →
        Reading s (cond a (cond (b && c) (cond d (refuse Outside 0 0) (given (stamp_in s))) (refuse NoStamp 0 0)) (refuse NoStamp 0 0))
    go true p true q true r true e = year_zero (record { form = p; moment = q; offset = r }) (eqb-true _ _ e) refl
    go true p true q true r false e =
        let there : Exists s = record { form = p; moment = q; offset = r } in
        stamp there (is_moment_lem s there (eqb-false _ _ e)) (is_offset_lem (drop (offset_place s) s) r) refl
    go true p true q false r d e = no_stamp (λ h. cc) refl
    go true p false q c r d e = no_stamp (λ h. cc) refl
    go false p b q c r d e = no_stamp (λ h. cc) refl
