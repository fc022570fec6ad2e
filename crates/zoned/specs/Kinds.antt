-- What the code asks of a step and of a list. That it gives what `act_in` and `ahead_in` say are laws: `by_kind`, `ahead_split`.
use Rattle.std.specs.Prelude.{ℕ, suc, cond, List, [], ◌∷◌}
use Rattle.calendar.specs.Moments.{Reach, moment}
use Rattle.steps.specs.Running.{is_time_step, act_of}
use Rattle.steps.specs.declared.plan.Start.{Start}
use Rattle.steps.specs.declared.plan.Start.TheVariants.{Now, Senseless, OnDate, InWeek, FromToday}
use Rattle.steps.specs.declared.plan.Move.{Move}
use Rattle.steps.specs.declared.plan.Move.TheVariants.{Minutes, Months, Years, BackTo, ForwardTo}
use Rattle.steps.specs.declared.plan.Step.{Step}
use Rattle.steps.specs.declared.plan.Step.TheVariants.{From, By, AtTime}
use Rattle.tzif.specs.Zones.{Zone}
use Rattle.zones.specs.Instants.{fixed_step, clock_of}
use Rattle.zones.specs.declared.instants.Instant.{Instant}
use Rattle.zoned.specs.InZone.{in_zone}
use Rattle.zoned.specs.declared.run.Kind.{Kind}
use Rattle.zoned.specs.declared.run.Kind.TheVariants.{Stays, Fixed, Civil}

-- what a start asks for: nothing, or an act on the civil time
abbrev pub startKind : Start → Kind
startKind Now = Stays
startKind Senseless = Civil
startKind (OnDate d) = Civil
startKind (InWeek s d) = Civil
startKind (FromToday d) = Civil

-- a move: a fixed length on the instant, or an act on the civil time
abbrev pub moveKind : Move → Kind
moveKind (Minutes back k) = Fixed back k
moveKind (Months back k) = Civil
moveKind (Years back k) = Civil
moveKind (BackTo d) = Civil
moveKind (ForwardTo d) = Civil

abbrev pub kind_of : Step → Kind
kind_of (From s) = startKind s
kind_of (By m) = moveKind m
kind_of (AtTime time) = Civil

-- a step on civil date and time, with its result settled
abbrev pub civil_step : Zone → Step → Instant → Instant → Reach Instant
civil_step z s n x = (in_zone z).settle (act_of s (clock_of z n) (clock_of z x))

-- a step from x at the now n, by its kind
abbrev pub act_by : Zone → Kind → Step → Instant → Instant → Reach Instant
act_by z Stays s n x = moment x
act_by z (Fixed back k) s n x = fixed_step z back k x
act_by z Civil s n x = civil_step z s n x

-- the steps of a list up to its time of day, that one included; all where there is none
abbrev pub up_to_time : List Step → ℕ
up_to_time [] = 0
up_to_time (s ∷ ss) = cond (is_time_step s) 1 (suc (up_to_time ss))
