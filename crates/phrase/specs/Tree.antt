-- The Rust's tree of a whole phrase: `enum DateTime`.
use Rattle.std.specs.Prelude.{Bool, true, false}
use Rattle.dates.specs.Durations.{Duration}
use Rattle.dates.specs.declared.time.Time.{Time}
use Rattle.expressions.specs.Tree.{DateExpr}

-- `enum DateTime`
pub data DateTime : Type 0 where
  date_time : DateExpr → Time → DateTime
  time_date : Time → DateExpr → DateTime
  duration_after : Duration → DateTime → DateTime
  duration_before : Duration → DateTime → DateTime
  now : DateTime

-- a duration around a tree, back or on
abbrev pub around : Bool → Duration → DateTime → DateTime
around true dur x = duration_before dur x
around false dur x = duration_after dur x
