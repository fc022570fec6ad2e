-- What a checked file stands for.
use Rattle.tzif.specs.Zones.{Zone}
use Rattle.tzif.specs.File.{zone_in}
use Rattle.tzif.specs.declared.zone.Zone.{Zone as Checked}

-- the zone that is read at its places
abbrev pub zone_read : Checked → Zone
zone_read z = zone_in z.file.now z.places
