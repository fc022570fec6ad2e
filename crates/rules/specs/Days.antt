-- BYDAY's weekdays, a bit for each. Assumes nothing.
use Rattle.std.specs.Prelude.{ℕ, ◌^◌, List, [], ◌∷◌, Option, Some}
use Prim.Native.Char.{code}
use Rattle.std.specs.Int.Bits.{bit_or}
use Rattle.std.specs.List.{position}
use Rattle.std.specs.Option.{option_map, option_and_then}
use Rattle.digits.specs.Bytes.{bytes_of}
use Rattle.digits.specs.Forms.{of_form}
use Rattle.rules.specs.Cut.{pieces}

-- "weekday = "SU" / "MO" / "TU" / "WE" / "TH" / "FR" / "SA"", Monday first
abbrev pub weekdays : List (List ℕ)
weekdays = bytes_of "MO" ∷ bytes_of "TU" ∷ bytes_of "WE" ∷ bytes_of "TH" ∷ bytes_of "FR" ∷ bytes_of "SA" ∷ bytes_of "SU" ∷ []

-- the bit of a weekday, Monday's the lowest; none for a text that is no weekday: "BYDAY without numbers"
unfoldable pub day_bit : List ℕ → Option ℕ
day_bit p = option_map (λ k. 2 ^ k) (position (λ day. of_form day p) weekdays)

-- the bits of weekdays beside those in hand, "a repeated day counts once"; none where one is no weekday
abbrev pub bits_of : ℕ → List (List ℕ) → Option ℕ
bits_of n [] = Some n
bits_of n (p ∷ ps) = option_and_then (λ b. bits_of (bit_or n b) ps) (day_bit p)

-- "bywdaylist = ( weekdaynum *("," weekdaynum) )"
unfoldable pub days_in : List ℕ → Option ℕ
days_in s = bits_of 0 (pieces (code ",") s)
