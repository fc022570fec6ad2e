-- What is asked of two nows and of their answers.
use Rattle.std.specs.Prelude.{◌≡◌}
use Rattle.refusals.specs.Answers.{Answer, given}
use Rattle.calendar.specs.Moments.{NotAfter}
use Rattle.calendar.specs.declared.moments.Moment.{Moment}

-- "the same time of day", milliseconds included
pub record SameTime (n m : Moment) : Type 0 where
  pub hour : n.hour ≡ m.hour
  pub minute : n.minute ≡ m.minute
  pub second : n.second ≡ m.second
  pub millisecond : n.millisecond ≡ m.millisecond

-- "take two valid nows with the same time of day, both answered with a moment. The later now gives an equal or later moment." A now that is
-- answered with a moment is valid, since every other is refused 8; "refused runs make no claim".
pub record NeverBack (answer : Moment → Answer Moment) : Type 0 where
  pub never_back : (n m : Moment) {t u : Moment} → SameTime n m → NotAfter n m → answer n ≡ given t → answer m ≡ given u → NotAfter t u
