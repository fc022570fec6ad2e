-- A zone, without signs: an instant is its second since 1970 plus 2^63, an offset has 90,000 added, and a civil second is their sum.
use Rattle.std.specs.Prelude.{ℕ, ◌+◌, ◌≤◌, ◌<◌, List, [], ◌∷◌, ◌⊎◌}

-- a transition, and the offset behind it
pub record Row : Type 0 where
  pub at : ℕ
  pub shift : ℕ

-- "Before the first transition type 0 holds"
pub record Zone : Type 0 where
  pub first : ℕ
  pub rows : List Row

-- 0001-01-01T00:00:00Z
unfoldable pub year_one : ℕ
year_one = 9223371974719179008

-- "times ascending"
abbrev pub Ascending : ℕ → List Row → Type 0
Ascending from [] = Unit
Ascending from (r ∷ rs) = (from ≤ r.at) × Ascending r.at rs

-- what a zone's file is checked for: offsets above -25 and below 26 hours, and no transition in UTC years 0 and 1 or after 9998
pub record Bounded (r : Row) : Type 0 where
  pub some : 0 < r.shift
  pub shift : r.shift < 183600
  pub clear : r.at + 31622400 < year_one ⊎ year_one + 31536000 ≤ r.at
  pub high : r.at < year_one + 315506361600

abbrev pub AllBounded : List Row → Type 0
AllBounded [] = Unit
AllBounded (r ∷ rs) = Bounded r × AllBounded rs

-- what the law `zone_is` shows of every file's zone
pub record IsZone (z : Zone) : Type 0 where
  pub some : 0 < z.first
  pub first : z.first < 183600
  pub ascending : Ascending 0 z.rows
  pub bounded : AllBounded z.rows
