-- RFC 5545, section 3.3.10: one part of a rule, a name, "=" and a value, "letters in either case". Assumes nothing.
use Rattle.std.specs.Prelude.{ℕ, Bool, cond, List, length, take, drop, Option, Some, None}
use Rattle.std.specs.Option.{option_map}
use Rattle.digits.specs.Bytes.{bytes_of}
use Rattle.digits.specs.Forms.{of_form}
use Rattle.rules.specs.Numbers.{number_to, without_plus}
use Rattle.rules.specs.Days.{days_in}
use Rattle.rules.specs.Untils.{count_in, until_in}
use Rattle.rules.specs.declared.part.Part.{Part}
use Rattle.rules.specs.declared.part.Part.TheVariants.{Interval, Bounded, Days, Day, Monday}

-- a part begins with a name and its "="
unfoldable pub named : List ℕ → List ℕ → Bool
named n p = of_form n (take (length n) p)

-- "WKST only as MO"
abbrev pub week_part : List ℕ → Option Part
week_part p = cond (of_form (bytes_of "WKST=MO") p) (Some Monday) None

-- "( "BYMONTHDAY" "=" bymodaylist )": "one positive BYMONTHDAY"
abbrev pub month_part : List ℕ → Option Part
month_part p = cond (named (bytes_of "BYMONTHDAY=") p) (option_map Day (number_to 31 (without_plus (drop 11 p)))) (week_part p)

-- "( "BYDAY" "=" bywdaylist )"
abbrev pub day_part : List ℕ → Option Part
day_part p = cond (named (bytes_of "BYDAY=") p) (option_map Days (days_in (drop 6 p))) (month_part p)

-- "( "UNTIL" "=" enddate )"
abbrev pub until_part : List ℕ → Option Part
until_part p = cond (named (bytes_of "UNTIL=") p) (option_map Bounded (until_in (drop 6 p))) (day_part p)

-- "( "COUNT" "=" 1*DIGIT )"
abbrev pub count_part : List ℕ → Option Part
count_part p = cond (named (bytes_of "COUNT=") p) (option_map Bounded (count_in (drop 6 p))) (until_part p)

-- "( "INTERVAL" "=" 1*DIGIT )": "INTERVAL from 1 to 999"
unfoldable pub part_of : List ℕ → Option Part
part_of p = cond (named (bytes_of "INTERVAL=") p) (option_map Interval (number_to 999 (drop 9 p))) (count_part p)
