-- What a rule's numbers are.
use Rattle.std.specs.Prelude.{◌≤◌}
use Rattle.calendar.specs.Gregorian.{IsDate}
use Rattle.calendar.specs.Moments.{IsMoment}
use Rattle.rules.specs.declared.Bound.{Bound}
use Rattle.rules.specs.declared.Bound.TheVariants.{Endless, Count, UntilDay, UntilMoment}
use Rattle.rules.specs.declared.Rule.{Rule}

-- "COUNT from 1 to 4,294,967,295"; UNTIL is a civil date or date-time of the calendar
abbrev pub IsBound : Bound → Type 0
IsBound Endless = Unit
IsBound (Count n) = 1 ≤ n
IsBound (UntilDay y m d) = IsDate y m d
IsBound (UntilMoment t) = IsMoment t

-- what listing asks of a rule: "INTERVAL from 1 to 999", and such a bound
pub record IsRule (r : Rule) : Type 0 where
  pub least : 1 ≤ r.interval
  pub most : r.interval ≤ 999
  pub bound : IsBound r.bound
