-- The Rust's tree of a date expression. A weekday is a number, Monday 0.
use Rattle.std.specs.Prelude.{ℕ}
use Rattle.dates.specs.Durations.{Duration}
use Rattle.dates.specs.declared.date.Date.{Date}
use Rattle.dates.specs.declared.units.Unit.{Unit}
use Rattle.dates.specs.declared.units.RelativeSpecifier.{RelativeSpecifier}

-- `enum DateExpr`; `weekday_expression_after` is the Rust's "Tuesday in two weeks", which its own parser never gives
pub data DateExpr : Type 0 where
  date : Date → DateExpr
  date_relative : Date → RelativeSpecifier → Unit → DateExpr
  date_expression_after : Date → Duration → DateExpr
  date_expression_before : Date → Duration → DateExpr
  unit_relative : RelativeSpecifier → Unit → DateExpr
  relative_weekday : RelativeSpecifier → ℕ → DateExpr
  weekday_relative : ℕ → RelativeSpecifier → Unit → DateExpr
  weekday_expression_before : ℕ → Duration → DateExpr
  weekday_expression_after : ℕ → Duration → DateExpr
  before : Duration → Date → DateExpr
  after : Duration → Date → DateExpr
  weekday : ℕ → DateExpr
  empty : DateExpr
