-- RFC 3339, section 5.6, "Internet Date/Time Format": one definition a rule, under the rule's name. Assumes nothing.
use Rattle.std.specs.Prelude.{ℕ, Bool, false, ◌||◌, List, [], ◌∷◌, ◌++◌, map}
use Prim.Native.String.{String}
use Rattle.digits.specs.Bytes.{bytes_of}
use Rattle.digits.specs.Forms.{of_form}

-- A rule by its alternatives, each a form: a 0 stands for any DIGIT, a letter for itself in either case, any other byte for itself.
-- "Per [ABNF] and ISO8601, the "T" and "Z" characters in this syntax may alternatively be lower case "t" or "z" respectively."
abbrev pub Rule : Type 0
Rule = List (List ℕ)

-- a rule of one form
abbrev pub form : String → Rule
form s = bytes_of s ∷ []

-- one rule behind another: each alternative of the first before each of the second
abbrev pub behind : Rule → Rule → Rule
behind [] b = []
behind (f ∷ fs) b = map (λ g. f ++ g) b ++ behind fs b

-- rules one behind another
abbrev pub in_order : List Rule → Rule
in_order [] = form ""
in_order (r ∷ rs) = behind r (in_order rs)

-- "A / B"
abbrev pub either : Rule → Rule → Rule
either a b = a ++ b

-- "[A]"
abbrev pub optional : Rule → Rule
optional r = either (form "") r

-- "date-fullyear = 4DIGIT"
abbrev pub date_fullyear : Rule
date_fullyear = form "0000"

-- "date-month = 2DIGIT"
abbrev pub date_month : Rule
date_month = form "00"

-- "date-mday = 2DIGIT"
abbrev pub date_mday : Rule
date_mday = form "00"

-- "time-hour = 2DIGIT"
abbrev pub time_hour : Rule
time_hour = form "00"

-- "time-minute = 2DIGIT"
abbrev pub time_minute : Rule
time_minute = form "00"

-- "time-second = 2DIGIT"
abbrev pub time_second : Rule
time_second = form "00"

-- "time-secfrac = "." 1*DIGIT", of which "one to three" are taken
abbrev pub time_secfrac : Rule
time_secfrac = either (form ".0") (either (form ".00") (form ".000"))

-- "time-numoffset = ("+" / "-") time-hour ":" time-minute"
abbrev pub time_numoffset : Rule
time_numoffset = in_order (either (form "+") (form "-") ∷ time_hour ∷ form ":" ∷ time_minute ∷ [])

-- "time-offset = "Z" / time-numoffset"
abbrev pub time_offset : Rule
time_offset = either (form "Z") time_numoffset

-- "partial-time = time-hour ":" time-minute ":" time-second [time-secfrac]"
abbrev pub partial_time : Rule
partial_time = in_order (time_hour ∷ form ":" ∷ time_minute ∷ form ":" ∷ time_second ∷ optional time_secfrac ∷ [])

-- "full-date = date-fullyear "-" date-month "-" date-mday"
abbrev pub full_date : Rule
full_date = in_order (date_fullyear ∷ form "-" ∷ date_month ∷ form "-" ∷ date_mday ∷ [])

-- "full-time = partial-time time-offset"
abbrev pub full_time : Rule
full_time = in_order (partial_time ∷ time_offset ∷ [])

-- "date-time = full-date "T" full-time"
abbrev pub date_time : Rule
date_time = in_order (full_date ∷ form "T" ∷ full_time ∷ [])

-- a text is of a rule where it is of one of its alternatives, whole
unfoldable pub is_of : Rule → List ℕ → Bool
is_of [] s = false
is_of (f ∷ fs) s = of_form f s || is_of fs s
