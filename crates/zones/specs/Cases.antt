-- Worked seconds, computed: both sides of a gap, of an overlap and of the last transition.
use Rattle.std.specs.Prelude.{ℕ, ◌+◌, ◌-◌, ◌≡◌, refl, List, [], ◌∷◌, map}
use Rattle.refusals.specs.declared.Reason.TheVariants.{PastLast, NoInstant}
use Rattle.calendar.specs.Moments.{Reach, moment, refused}
use Rattle.tzif.specs.Zones.{Row, Zone}
use Rattle.zones.specs.Civil.{shift_at, resolve}

-- 2026-03-08T07:00:00Z, 2026-11-01T06:00:00Z, and a last transition at 2027-03-07T23:00:00Z
abbrev march : ℕ
march = 9223372038627729008

abbrev november : ℕ
november = 9223372038648288608

abbrev last : ℕ
last = 9223372038659236208

abbrev row : ℕ → ℕ → Row
row a o = record { at = a; shift = o }

-- New York's clocks: local time, then -05:00 and -04:00
abbrev pub new_york : Zone
new_york = record { first = 72238; rows = row 9223372034137125008 72000 ∷ row march 75600 ∷ row november 72000 ∷ row last 75600 ∷ [] }

-- a civil second and its instant
pub record Case : Type 0 where
  pub civil : ℕ
  pub instant : Reach ℕ

abbrev case : ℕ → Reach ℕ → Case
case c a = record { civil = c; instant = a }

unfoldable pub cases : List Case
cases =
    -- the gap: its first and its last second don't occur
    case (march + 71999) (moment (march - 1))
    ∷ case (march + 72000) (refused NoInstant)
    ∷ case (march + 75599) (refused NoInstant)
    ∷ case (march + 75600) (moment march)
    -- the overlap: its first and its last second are the earlier of two
    ∷ case (november + 71999) (moment (november - 3601))
    ∷ case (november + 72000) (moment (november - 3600))
    ∷ case (november + 75599) (moment (november - 1))
    ∷ case (november + 75600) (moment (november + 3600))
    -- the last transition
    ∷ case (last + 71999) (moment (last - 1))
    ∷ case (last + 72000) (refused NoInstant)
    ∷ case (last + 75599) (refused NoInstant)
    ∷ case (last + 75600) (refused PastLast)
    -- before the first transition type 0 holds
    ∷ case (9223372034137125008 + 72237) (moment 9223372034137125007)
    ∷ []

pub cases_as_listed : map (λ c. resolve new_york c.civil) cases ≡ map (λ c. c.instant) cases
unfolding cases
cases_as_listed = refl

-- a transition's own second has the offset behind it
pub shifts_as_listed :
    map (shift_at 72238 new_york.rows) (0 ∷ 9223372034137125007 ∷ 9223372034137125008 ∷ (march - 1) ∷ march ∷ (november - 1) ∷ november ∷ last ∷ [])
    ≡ (72238 ∷ 72238 ∷ 72000 ∷ 72000 ∷ 75600 ∷ 75600 ∷ 72000 ∷ 75600 ∷ [])
shifts_as_listed = refl

-- "all, if there is none"
pub none_known : resolve (record { first = 90000; rows = [] }) march ≡ refused PastLast
none_known = refl
