-- Worked texts: each rule of reading on both sides.
use Rattle.std.specs.Prelude.{ℕ, ◌≡◌, refl, List, [], ◌∷◌, map}
use Rattle.refusals.specs.declared.Reason.TheVariants.{NoRule}
use Rattle.refusals.specs.Answers.{Answer, given, refuse}
use Rattle.digits.specs.Bytes.{bytes_of}
use Rattle.calendar.specs.Gregorian.{leap_year, month_length}
use Rattle.calendar.specs.Moments.{is_date, is_time, is_moment, moment_of}
use Rattle.rules.specs.Numbers.{number_to}
use Rattle.rules.specs.Days.{day_bit, days_in}
use Rattle.rules.specs.Untils.{count_in, until_in}
use Rattle.rules.specs.Parts.{named, part_of}
use Rattle.rules.specs.Rules.{begun, read_rule}
use Rattle.rules.specs.declared.Freq.{Freq}
use Rattle.rules.specs.declared.Freq.TheVariants.{Daily, Weekly, Monthly}
use Rattle.rules.specs.declared.Bound.{Bound}
use Rattle.rules.specs.declared.Bound.TheVariants.{Endless, Count, UntilDay, UntilMoment}
use Rattle.rules.specs.declared.Rule.{Rule}

-- a rule by its five parts
abbrev rule : Freq → ℕ → Bound → ℕ → ℕ → Rule
rule f i b days day = record { freq = f; interval = i; bound = b; days = days; day = day }

-- a text and its reading
pub record Text : Type 0 where
  pub text : List ℕ
  pub reading : Answer Rule

abbrev reads : List ℕ → Rule → Text
reads s r = record { text = s; reading = given r }

abbrev refuses : List ℕ → Text
refuses s = record { text = s; reading = refuse NoRule 0 0 }

unfoldable pub texts : List Text
texts =
    -- FREQ of three, letters in either case
    reads (bytes_of "FREQ=DAILY") (rule Daily 1 Endless 0 0)
    ∷ reads (bytes_of "FREQ=WEEKLY") (rule Weekly 1 Endless 0 0)
    ∷ reads (bytes_of "FREQ=MONTHLY") (rule Monthly 1 Endless 0 0)
    ∷ reads (bytes_of "freq=Daily") (rule Daily 1 Endless 0 0)
    ∷ refuses (bytes_of "FREQ=YEARLY")
    ∷ refuses (bytes_of "FREQ=HOURLY")
    ∷ refuses (bytes_of "FREQ=")
    ∷ refuses (bytes_of "FREQ")
    ∷ refuses []
    -- FREQ first, once; ";" between the parts and nowhere else; no blanks, no "RRULE:"
    ∷ refuses (bytes_of "INTERVAL=2;FREQ=DAILY")
    ∷ refuses (bytes_of "FREQ=DAILY;FREQ=DAILY")
    ∷ refuses (bytes_of "FREQ=DAILY;")
    ∷ refuses (bytes_of ";FREQ=DAILY")
    ∷ refuses (bytes_of "FREQ=DAILY;;COUNT=2")
    ∷ refuses (bytes_of "FREQ=DAILY; COUNT=2")
    ∷ refuses (bytes_of " FREQ=DAILY")
    ∷ refuses (bytes_of "FREQ=DAILY ")
    ∷ refuses (bytes_of "RRULE:FREQ=DAILY")
    -- INTERVAL from 1 to 999, leading zeros without end
    ∷ reads (bytes_of "FREQ=DAILY;INTERVAL=1") (rule Daily 1 Endless 0 0)
    ∷ reads (bytes_of "FREQ=DAILY;interval=999") (rule Daily 999 Endless 0 0)
    ∷ reads (bytes_of "FREQ=DAILY;INTERVAL=00000000000000000000000000000000000000000999") (rule Daily 999 Endless 0 0)
    ∷ refuses (bytes_of "FREQ=DAILY;INTERVAL=0")
    ∷ refuses (bytes_of "FREQ=DAILY;INTERVAL=1000")
    ∷ refuses (bytes_of "FREQ=DAILY;INTERVAL=18446744073709551617")
    ∷ refuses (bytes_of "FREQ=DAILY;INTERVAL=")
    ∷ refuses (bytes_of "FREQ=DAILY;INTERVAL")
    ∷ refuses (bytes_of "FREQ=DAILY;INTERVAL=+2")
    ∷ refuses (bytes_of "FREQ=DAILY;INTERVAL=-2")
    ∷ refuses (bytes_of "FREQ=DAILY;INTERVAL=2 ")
    ∷ refuses (bytes_of "FREQ=DAILY;INTERVAL==2")
    ∷ refuses (bytes_of "FREQ=DAILY;INTERVAL=2;INTERVAL=2")
    -- COUNT from 1 to 4,294,967,295
    ∷ reads (bytes_of "FREQ=DAILY;COUNT=1") (rule Daily 1 (Count 1) 0 0)
    ∷ reads (bytes_of "FREQ=DAILY;Count=4294967295") (rule Daily 1 (Count 4294967295) 0 0)
    ∷ reads (bytes_of "FREQ=DAILY;COUNT=00000000004294967295") (rule Daily 1 (Count 4294967295) 0 0)
    ∷ refuses (bytes_of "FREQ=DAILY;COUNT=0")
    ∷ refuses (bytes_of "FREQ=DAILY;COUNT=4294967296")
    ∷ refuses (bytes_of "FREQ=DAILY;COUNT=4294967297")
    ∷ refuses (bytes_of "FREQ=DAILY;COUNT=")
    ∷ refuses (bytes_of "FREQ=DAILY;COUNT=+1")
    ∷ refuses (bytes_of "FREQ=DAILY;COUNT=1a")
    ∷ refuses (bytes_of "FREQ=DAILY;COUNT=1;COUNT=1")
    -- UNTIL as a date that exists, in the years 1 to 9999
    ∷ reads (bytes_of "FREQ=DAILY;UNTIL=20240229") (rule Daily 1 (UntilDay 2024 2 29) 0 0)
    ∷ reads (bytes_of "FREQ=DAILY;until=00010101") (rule Daily 1 (UntilDay 1 1 1) 0 0)
    ∷ reads (bytes_of "FREQ=DAILY;UNTIL=99991231") (rule Daily 1 (UntilDay 9999 12 31) 0 0)
    ∷ refuses (bytes_of "FREQ=DAILY;UNTIL=00001231")
    ∷ refuses (bytes_of "FREQ=DAILY;UNTIL=20260229")
    ∷ refuses (bytes_of "FREQ=DAILY;UNTIL=20261301")
    ∷ refuses (bytes_of "FREQ=DAILY;UNTIL=20260001")
    ∷ refuses (bytes_of "FREQ=DAILY;UNTIL=20260100")
    ∷ refuses (bytes_of "FREQ=DAILY;UNTIL=2026012")
    ∷ refuses (bytes_of "FREQ=DAILY;UNTIL=020260101")
    ∷ refuses (bytes_of "FREQ=DAILY;UNTIL=2026-01-01")
    ∷ refuses (bytes_of "FREQ=DAILY;UNTIL=")
    -- and as a date-time that exists, without "Z"
    ∷ reads (bytes_of "FREQ=DAILY;UNTIL=20240229T235959") (rule Daily 1 (UntilMoment (moment_of 2024 2 29 23 59 59 0)) 0 0)
    ∷ reads (bytes_of "FREQ=DAILY;UNTIL=00010101t000000") (rule Daily 1 (UntilMoment (moment_of 1 1 1 0 0 0 0)) 0 0)
    ∷ refuses (bytes_of "FREQ=DAILY;UNTIL=20240229T235960")
    ∷ refuses (bytes_of "FREQ=DAILY;UNTIL=20240229T236000")
    ∷ refuses (bytes_of "FREQ=DAILY;UNTIL=20240229T240000")
    ∷ refuses (bytes_of "FREQ=DAILY;UNTIL=20230229T000000")
    ∷ refuses (bytes_of "FREQ=DAILY;UNTIL=00000101T000000")
    ∷ refuses (bytes_of "FREQ=DAILY;UNTIL=20240229T235959Z")
    ∷ refuses (bytes_of "FREQ=DAILY;UNTIL=20240229 235959")
    ∷ refuses (bytes_of "FREQ=DAILY;UNTIL=20240229T23595")
    ∷ refuses (bytes_of "FREQ=DAILY;UNTIL=20240229T")
    -- COUNT or UNTIL, not both
    ∷ refuses (bytes_of "FREQ=DAILY;COUNT=2;UNTIL=20240229")
    ∷ refuses (bytes_of "FREQ=DAILY;UNTIL=20240229;COUNT=2")
    ∷ refuses (bytes_of "FREQ=DAILY;UNTIL=20240229;UNTIL=20240229")
    -- BYDAY only with WEEKLY, a repeated day once
    ∷ reads (bytes_of "FREQ=WEEKLY;BYDAY=MO") (rule Weekly 1 Endless 1 0)
    ∷ reads (bytes_of "FREQ=WEEKLY;byday=su") (rule Weekly 1 Endless 64 0)
    ∷ reads (bytes_of "FREQ=WEEKLY;BYDAY=SU,TU,SU") (rule Weekly 1 Endless 66 0)
    ∷ reads (bytes_of "FREQ=WEEKLY;BYDAY=SA,FR,TH,WE,TU,MO") (rule Weekly 1 Endless 63 0)
    ∷ refuses (bytes_of "FREQ=DAILY;BYDAY=MO")
    ∷ refuses (bytes_of "FREQ=MONTHLY;BYDAY=MO")
    ∷ refuses (bytes_of "FREQ=WEEKLY;BYDAY=")
    ∷ refuses (bytes_of "FREQ=WEEKLY;BYDAY=MO,")
    ∷ refuses (bytes_of "FREQ=WEEKLY;BYDAY=,MO")
    ∷ refuses (bytes_of "FREQ=WEEKLY;BYDAY=MO,,TU")
    ∷ refuses (bytes_of "FREQ=WEEKLY;BYDAY=1MO")
    ∷ refuses (bytes_of "FREQ=WEEKLY;BYDAY=MO, TU")
    ∷ refuses (bytes_of "FREQ=WEEKLY;BYDAY=XX")
    ∷ refuses (bytes_of "FREQ=WEEKLY;BYDAY=MO;BYDAY=TU")
    -- BYMONTHDAY only with MONTHLY, one of 1 to 31
    ∷ reads (bytes_of "FREQ=MONTHLY;BYMONTHDAY=1") (rule Monthly 1 Endless 0 1)
    ∷ reads (bytes_of "FREQ=MONTHLY;bymonthday=+0031") (rule Monthly 1 Endless 0 31)
    ∷ refuses (bytes_of "FREQ=DAILY;BYMONTHDAY=1")
    ∷ refuses (bytes_of "FREQ=WEEKLY;BYMONTHDAY=1")
    ∷ refuses (bytes_of "FREQ=MONTHLY;BYMONTHDAY=0")
    ∷ refuses (bytes_of "FREQ=MONTHLY;BYMONTHDAY=32")
    ∷ refuses (bytes_of "FREQ=MONTHLY;BYMONTHDAY=-1")
    ∷ refuses (bytes_of "FREQ=MONTHLY;BYMONTHDAY=++1")
    ∷ refuses (bytes_of "FREQ=MONTHLY;BYMONTHDAY=+")
    ∷ refuses (bytes_of "FREQ=MONTHLY;BYMONTHDAY=")
    ∷ refuses (bytes_of "FREQ=MONTHLY;BYMONTHDAY=1,2")
    ∷ refuses (bytes_of "FREQ=MONTHLY;BYMONTHDAY=1;BYMONTHDAY=1")
    -- WKST only as MO, with any FREQ
    ∷ reads (bytes_of "FREQ=DAILY;WKST=MO") (rule Daily 1 Endless 0 0)
    ∷ reads (bytes_of "FREQ=MONTHLY;wkst=mo") (rule Monthly 1 Endless 0 0)
    ∷ refuses (bytes_of "FREQ=WEEKLY;WKST=SU")
    ∷ refuses (bytes_of "FREQ=WEEKLY;WKST=")
    ∷ refuses (bytes_of "FREQ=WEEKLY;WKST=MO,TU")
    ∷ refuses (bytes_of "FREQ=WEEKLY;WKST=MO;WKST=MO")
    -- parts in any order, and other parts
    ∷ reads (bytes_of "FREQ=WEEKLY;WKST=MO;BYDAY=TU;COUNT=3;INTERVAL=2") (rule Weekly 2 (Count 3) 2 0)
    ∷ reads (bytes_of "FREQ=WEEKLY;INTERVAL=2;COUNT=3;BYDAY=TU;WKST=MO") (rule Weekly 2 (Count 3) 2 0)
    ∷ refuses (bytes_of "FREQ=DAILY;BYHOUR=9")
    ∷ refuses (bytes_of "FREQ=DAILY;X=1")
    ∷ []

-- each text is read as listed
pub texts_as_listed : map (λ c. read_rule c.text) texts ≡ map (λ c. c.reading) texts
unfolding texts read_rule begun part_of named number_to count_in until_in day_bit days_in leap_year month_length is_date is_time is_moment
texts_as_listed = refl
