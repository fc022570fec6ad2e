-- What a search by halves counts, and where a walk of the pieces may begin.
use Rattle.std.specs.Prelude.{ℕ, suc, ◌-◌, cond, List, [], ◌∷◌, leb}
use Rattle.calendar.specs.Moments.{Reach}
use Rattle.tzif.specs.Zones.{Row}
use Rattle.tzif.specs.File.{last_at, offset_behind, rows_from}
use Rattle.tzif.specs.declared.file.Places.{Places}
use Rattle.zones.specs.Civil.{resolve_from}

-- how many transitions are at or before s
abbrev pub passed_by : ℕ → List Row → ℕ
passed_by s [] = 0
passed_by s (r ∷ rs) = cond (leb r.at s) (suc (passed_by s rs)) 0

-- the first piece that can hold c: offsets are at most 183,599, so that a piece which ends by c - 183,599 is over by then
unfoldable pub first_piece : ℕ → List Row → ℕ
first_piece c rs = cond (leb 183599 c) (passed_by (c - 183599) rs) 0

-- what the pieces from the one behind k transitions on say of c
unfoldable pub resolve_at : List ℕ → Places → ℕ → ℕ → Reach ℕ
resolve_at l p k c = resolve_from (last_at l p.times k) (offset_behind l p k) (rows_from l p k (p.count - k)) c
