-- The zone of a TZif file, "RFC 9636, version 2 or later": its two headers, the second data block and the footer's newlines.
-- Not looked at: the first block's contents, daylight flags, names, indicators, reserved octets, and the footer's text.
use Rattle.std.specs.Prelude.{ℕ, zero, suc, ◌+◌, ◌-◌, ◌*◌, ◌<◌, ◌≡◌, Bool, true, false, cond, ◌&&◌, ◌||◌, List, [], ◌∷◌, leb, ltb, eqb, length, get_or, drop, Option, Some, None}
use Prim.Native.Char.{code}
use Rattle.refusals.specs.declared.Reason.TheVariants.{NoZone}
use Rattle.refusals.specs.Answers.{Answer, given, refuse}
use Rattle.digits.specs.Bytes.{bytes_of}
use Rattle.tzif.specs.Zones.{Row, Zone, year_one}
use Rattle.tzif.specs.declared.file.Header.{Header}
use Rattle.tzif.specs.declared.file.Places.{Places}

-- counts of four octets
pub record Narrow (h : Header) : Type 0 where
  pub isutcnt : h.isutcnt < 4294967296
  pub isstdcnt : h.isstdcnt < 4294967296
  pub leapcnt : h.leapcnt < 4294967296
  pub timecnt : h.timecnt < 4294967296
  pub typecnt : h.typecnt < 4294967296
  pub charcnt : h.charcnt < 4294967296

-- the octet at a place
abbrev pub octet_at : List ℕ → ℕ → ℕ
octet_at l at = get_or l at 0

-- "network octet order": the number of four octets
unfoldable pub four_at : List ℕ → ℕ → ℕ
four_at l at = 16777216 * octet_at l at + 65536 * octet_at l (at + 1) + 256 * octet_at l (at + 2) + octet_at l (at + 3)

-- and of eight
unfoldable pub eight_at : List ℕ → ℕ → ℕ
eight_at l at = 4294967296 * four_at l at + four_at l (at + 4)

-- "two's complement": a number of 64 bits with a sign, plus 2^63; and the way back
abbrev pub turned : ℕ → ℕ
turned u = cond (ltb u 9223372036854775808) (u + 9223372036854775808) (u - 9223372036854775808)

-- a number of 32 bits with a sign, plus 90,000: 0 for all that is "not above -25 .. hours"
abbrev pub raised : ℕ → ℕ
raised u = cond (ltb u 2147483648) (u + 90000) (u + 90000 - 4294967296)

-- section 3.1, the header of 44 octets: magic, version, 15 reserved octets, then six counts
unfoldable pub header_at : List ℕ → ℕ → Header
header_at l at = record {
  isutcnt = four_at l (at + 20);
  isstdcnt = four_at l (at + 24);
  leapcnt = four_at l (at + 28);
  timecnt = four_at l (at + 32);
  typecnt = four_at l (at + 36);
  charcnt = four_at l (at + 40);
}

-- the magic, "TZif", and a version octet of "2" or later
unfoldable pub is_header : List ℕ → ℕ → Bool
is_header l at = leb (at + 44) (length l) && (eqb (four_at l at) (four_at (bytes_of "TZif") 0) && leb (code "2") (octet_at l (at + 4)))

-- section 3.2, the octets of a data block whose times have w octets: times, their types, type records, designations, leap-second
-- records, standard/wall and UT/local indicators
abbrev pub block_length : ℕ → Header → ℕ
block_length w h = w * h.timecnt + h.timecnt + 6 * h.typecnt + h.charcnt + (w + 4) * h.leapcnt + h.isstdcnt + h.isutcnt

-- the second header, behind the first block, whose times have four octets
unfoldable pub second_at : List ℕ → ℕ
second_at l = 44 + block_length 4 (header_at l 0)

-- "MUST either be zero or equal to "typecnt""
abbrev pub zero_or : ℕ → ℕ → Bool
zero_or n k = eqb n 0 || eqb n k

-- the second header's counts: types and designations "MUST NOT be zero"; "leap-second records are refused"
abbrev pub are_counts : Header → Bool
are_counts h =
    leb 1 h.typecnt && (leb 1 h.charcnt && (eqb h.leapcnt 0 && (zero_or h.isutcnt h.typecnt && zero_or h.isstdcnt h.typecnt)))

-- transition time i of the block that begins at b
unfoldable pub time_at : List ℕ → ℕ → ℕ → ℕ
time_at l b i = turned (eight_at l (b + 8 * i))

-- "transitions in UTC years 0 and 1 or after 9998" are refused
unfoldable pub is_time : ℕ → Bool
is_time t = (ltb (t + 31622400) year_one || leb (year_one + 31536000) t) && ltb t (year_one + 315506361600)

-- "sorted in strictly ascending order": the first, or above the one before
abbrev pub is_above : List ℕ → ℕ → ℕ → Bool
is_above l b i = eqb i 0 || ltb (time_at l b (i - 1)) (time_at l b i)

-- a transition, with its type "in the range [0, "typecnt" - 1]", one octet behind all times
unfoldable pub is_transition : List ℕ → ℕ → Header → ℕ → Bool
is_transition l b h i = is_time (time_at l b i) && (ltb (octet_at l (b + 8 * h.timecnt + i)) h.typecnt && is_above l b i)

-- the offset of type j, in the table that begins at a place: records of six octets, offset, daylight flag and designation
unfoldable pub offset_at : List ℕ → ℕ → ℕ → ℕ
offset_at l types j = raised (four_at l (types + 6 * j))

-- type j: "offsets not above -25 or not below 26 hours" are refused, and the designation begins in "[0, "charcnt" - 1]"
unfoldable pub is_type : List ℕ → ℕ → Header → ℕ → Bool
is_type l b h j =
    (ltb 0 (offset_at l (b + 9 * h.timecnt) j) && ltb (offset_at l (b + 9 * h.timecnt) j) 183600)
    && ltb (octet_at l (b + 9 * h.timecnt + 6 * j + 5)) h.charcnt

-- n numbers from i on pass a test
abbrev pub each : (ℕ → Bool) → ℕ → ℕ → Bool
each f i zero = true
each f i (suc n) = f i && each f (suc i) n

-- the tables of the block: every transition and every type
abbrev pub are_tables : List ℕ → ℕ → Header → Bool
are_tables l b h = each (is_transition l b h) 0 h.timecnt && each (is_type l b h) 0 h.typecnt

-- a newline anywhere
abbrev pub has_newline : List ℕ → Bool
has_newline [] = false
has_newline (x ∷ xs) = eqb x 10 || has_newline xs

-- section 3.3, the footer: "checked for its two newlines only"
unfoldable pub is_footer : List ℕ → ℕ → Bool
is_footer l at = eqb (octet_at l at) 10 && has_newline (drop (at + 1) l)

-- the second block, which begins at b, whose times have eight octets: its counts, its length, its tables, and the footer behind it
unfoldable pub is_block : List ℕ → ℕ → Header → Bool
is_block l b h =
    are_counts h && (leb (b + block_length 8 h) (length l) && (are_tables l b h && is_footer l (b + block_length 8 h)))

-- the last of n transition times, 0 where there is none
unfoldable pub last_at : List ℕ → ℕ → ℕ → ℕ
last_at l b n = cond (eqb n 0) 0 (time_at l b (n - 1))

-- where the block's tables begin, how many transitions there are, and the last
unfoldable pub places_at : List ℕ → ℕ → Header → Places
places_at l b h = record {
  times = b;
  indexes = b + 8 * h.timecnt;
  types = b + 9 * h.timecnt;
  count = h.timecnt;
  last = last_at l b h.timecnt;
}

-- the places that the check finds by the second header, at a place, and its block
unfoldable pub block_of : List ℕ → ℕ → Option Places
block_of l at = cond (is_block l (at + 44) (header_at l at)) (Some (places_at l (at + 44) (header_at l at))) None

-- and of the file: "a lent slice of at most 64 KiB: header, second data block"
unfoldable pub checked_of : List ℕ → Option Places
checked_of l = cond (leb (length l) 65536 && (is_header l 0 && is_header l (second_at l))) (block_of l (second_at l)) None

-- these are the places of a file that passes
abbrev pub IsChecked : List ℕ → Places → Type 0
IsChecked l p = checked_of l ≡ Some p

-- transition i, with the offset of its type
abbrev pub row_at : List ℕ → Places → ℕ → Row
row_at l p i = record { at = time_at l p.times i; shift = offset_at l p.types (octet_at l (p.indexes + i)) }

-- the offset behind k transitions
unfoldable pub offset_behind : List ℕ → Places → ℕ → ℕ
offset_behind l p k = cond (eqb k 0) (offset_at l p.types 0) (row_at l p (k - 1)).shift

-- n transitions from i on
abbrev pub rows_from : List ℕ → Places → ℕ → ℕ → List Row
rows_from l p i zero = []
rows_from l p i (suc n) = row_at l p i ∷ rows_from l p (suc i) n

-- the zone that is read at these places: type 0, then the transitions
unfoldable pub zone_in : List ℕ → Places → Zone
zone_in l p = record { first = offset_at l p.types 0; rows = rows_from l p 0 p.count }

-- or 21
abbrev pub zone_by : List ℕ → Option Places → Answer Zone
zone_by l None = refuse NoZone 0 0
zone_by l (Some p) = given (zone_in l p)

-- the zone of a file
unfoldable pub zone_of : List ℕ → Answer Zone
zone_of l = zone_by l (checked_of l)
