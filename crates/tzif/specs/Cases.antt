-- Worked files, computed: each limit of a file on both sides.
use Rattle.std.specs.Prelude.{ℕ, zero, suc, ◌/◌, ◌%◌, ◌≡◌, refl, List, [], ◌∷◌, ◌++◌, map, length, replicate, take}
use Rattle.refusals.specs.declared.Reason.TheVariants.{NoZone}
use Rattle.refusals.specs.Answers.{Answer, given, refuse}
use Rattle.digits.specs.Bytes.{bytes_of}
use Rattle.tzif.specs.Zones.{Row, Zone, year_one}
use Rattle.tzif.specs.File.{four_at, eight_at, turned, header_at, is_header, second_at, time_at, is_time, is_transition, offset_at, is_type, is_footer}
use Rattle.tzif.specs.File.{is_block, last_at, places_at, block_of, checked_of, zone_in, zone_of}

-- the k octets of a number
abbrev octets : ℕ → ℕ → List ℕ
octets zero n = []
octets (suc k) n = octets k (n / 256) ++ (n % 256 ∷ [])

-- lists one behind the other
abbrev joined : List (List ℕ) → List ℕ
joined [] = []
joined (l ∷ ls) = l ++ joined ls

-- a header: its version, then isutcnt, isstdcnt, leapcnt, timecnt, typecnt and charcnt
abbrev header : ℕ → List ℕ → List ℕ
header version counts = bytes_of "TZif" ++ (version ∷ replicate 15 255) ++ joined (map (octets 4) counts)

-- a second header with its block: a version, an isutcnt and a leapcnt; instants and their types; offsets, in two's complement, all with
-- one designation's index, of one octet of designations; and what stands behind those
abbrev block : ℕ → ℕ → ℕ → List ℕ → List ℕ → List ℕ → ℕ → List ℕ → List ℕ
block version isut leaps times indexes offsets name rest =
    header version (isut ∷ 0 ∷ leaps ∷ length times ∷ length offsets ∷ 1 ∷ [])
    ++ joined (map (λ t. octets 8 (turned t)) times)
    ++ indexes
    ++ joined (map (λ o. octets 4 o ++ (255 ∷ name ∷ [])) offsets)
    ++ (255 ∷ rest)

-- behind a first header of a version whose block is empty
abbrev behind : ℕ → List ℕ → List ℕ
behind version l = header version (0 ∷ 0 ∷ 0 ∷ 0 ∷ 0 ∷ 0 ∷ []) ++ l

-- one type, -05:00, with these transitions to it
abbrev at : List ℕ → List ℕ
at times = behind 50 (block 50 0 0 times (map (λ t. 0) times) (4294949296 ∷ []) 0 (10 ∷ 10 ∷ []))

-- one offset, and no transition
abbrev of : ℕ → List ℕ
of offset = behind 50 (block 50 0 0 [] [] (offset ∷ []) 0 (10 ∷ 10 ∷ []))

-- two types, with two transitions to these
abbrev two : ℕ → ℕ → ℕ → ℕ → List ℕ → List ℕ
two isut leaps index name rest =
    behind 50 (block 50 isut leaps (9223372038627729008 ∷ 9223372038648288608 ∷ []) (index ∷ 0 ∷ []) (4294949296 ∷ 4294952896 ∷ []) name rest)

abbrev row : ℕ → ℕ → Row
row a o = record { at = a; shift = o }

abbrev zone : ℕ → List Row → Answer Zone
zone o rs = given (record { first = o; rows = rs })

-- New York's clocks of 2026
abbrev new_york : Answer Zone
new_york = zone 72000 (row 9223372038627729008 75600 ∷ row 9223372038648288608 72000 ∷ [])

-- a file and its answer
pub record Case : Type 0 where
  pub file : List ℕ
  pub answer : Answer Zone

abbrev case : List ℕ → Answer Zone → Case
case l a = record { file = l; answer = a }

abbrev refused : Answer Zone
refused = refuse NoZone 0 0

unfoldable pub cases : List Case
cases =
    case (two 0 0 1 0 (10 ∷ 10 ∷ [])) new_york
    -- an index of a type, or of a designation, past the last
    ∷ case (two 0 0 2 0 (10 ∷ 10 ∷ [])) refused
    ∷ case (two 0 0 1 1 (10 ∷ 10 ∷ [])) refused
    -- indicators of one type of two, and of both; leap-second records
    ∷ case (two 1 0 1 0 (1 ∷ 10 ∷ 10 ∷ [])) refused
    ∷ case (two 2 0 1 0 (1 ∷ 1 ∷ 10 ∷ 10 ∷ [])) new_york
    ∷ case (two 0 1 1 0 (replicate 12 0 ++ (10 ∷ 10 ∷ []))) refused
    -- the footer: one newline, a text, and a text with no newline ahead; and a file that ends within the block
    ∷ case (two 0 0 1 0 (10 ∷ [])) refused
    ∷ case (two 0 0 1 0 (10 ∷ 65 ∷ 10 ∷ 65 ∷ [])) new_york
    ∷ case (two 0 0 1 0 (65 ∷ 10 ∷ 10 ∷ [])) refused
    ∷ case (take 118 (two 0 0 1 0 [])) refused
    -- times that are equal, and that fall
    ∷ case (at (9223372038627729008 ∷ 9223372038627729008 ∷ [])) refused
    ∷ case (at (9223372038627729009 ∷ 9223372038627729008 ∷ [])) refused
    -- UTC years 0 and 1, and 9999
    ∷ case (at (9223371974687556607 ∷ [])) (zone 72000 (row 9223371974687556607 72000 ∷ []))
    ∷ case (at (9223371974687556608 ∷ [])) refused
    ∷ case (at (9223371974750715007 ∷ [])) refused
    ∷ case (at (9223371974750715008 ∷ [])) (zone 72000 (row 9223371974750715008 72000 ∷ []))
    ∷ case (at (9223372290225540607 ∷ [])) (zone 72000 (row 9223372290225540607 72000 ∷ []))
    ∷ case (at (9223372290225540608 ∷ [])) refused
    -- offsets: -25 hours, one second more, one second less than 26 hours, and 26 hours
    ∷ case (of 4294877296) refused
    ∷ case (of 4294877297) (zone 1 [])
    ∷ case (of 93599) (zone 183599 [])
    ∷ case (of 93600) refused
    ∷ case (of 2147483648) refused
    -- versions: 1, and 3; no type; and a first block, skipped by its counts
    ∷ case (behind 0 (block 50 0 0 [] [] (0 ∷ []) 0 (10 ∷ 10 ∷ []))) refused
    ∷ case (behind 50 (block 49 0 0 [] [] (0 ∷ []) 0 (10 ∷ 10 ∷ []))) refused
    ∷ case (behind 51 (block 51 0 0 [] [] (0 ∷ []) 0 (10 ∷ 10 ∷ []))) (zone 90000 [])
    ∷ case (behind 50 (block 50 0 0 [] [] [] 0 (10 ∷ 10 ∷ []))) refused
    ∷ case (header 50 (1 ∷ 1 ∷ 1 ∷ 1 ∷ 1 ∷ 1 ∷ []) ++ replicate 22 255 ++ block 50 0 0 [] [] (0 ∷ []) 0 (10 ∷ 10 ∷ [])) (zone 90000 [])
    ∷ case [] refused
    ∷ []

-- each file's zone is as listed
pub cases_as_listed : map (λ c. zone_of c.file) cases ≡ map (λ c. c.answer) cases
unfolding cases year_one four_at eight_at header_at is_header second_at time_at is_time is_transition offset_at is_type is_footer is_block last_at places_at
    block_of checked_of zone_in zone_of
cases_as_listed = refl
