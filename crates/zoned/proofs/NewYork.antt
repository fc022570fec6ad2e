-- The bounds are met: New York's zone of the worked cases is one.
use native.Mathlib.Omega.{arith}
use mathlib.Core.Logic.{inr}
use Rattle.tzif.specs.Zones.{year_one, IsZone}
use Rattle.zones.specs.Cases.{new_york}

pub new_york_zone : IsZone new_york
unfolding year_one
new_york_zone = record {
  some = omega arith;
  first = omega arith;
  ascending = (omega arith, (omega arith, (omega arith, (omega arith, tt))));
  bounded = (
    record { some = omega arith; shift = omega arith; clear = inr (omega arith); high = omega arith },
    (
      record { some = omega arith; shift = omega arith; clear = inr (omega arith); high = omega arith },
      (
        record { some = omega arith; shift = omega arith; clear = inr (omega arith); high = omega arith },
        (record { some = omega arith; shift = omega arith; clear = inr (omega arith); high = omega arith }, tt),
      ),
    ),
  );
}
