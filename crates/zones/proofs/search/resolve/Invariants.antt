use mathlib.Core.Path.{◌≡◌}
use Rattle.tzif.specs.Read.{zone_read}
use Rattle.zones.specs.Civil.{resolve}
use Rattle.zones.specs.Search.{resolve_at}
use Rattle.zones.proofs.search.resolve.Given as goal

-- the pieces from the one behind k transitions on say what all say
abbrev pub invariant-loop-k : goal.invariant-loop-k
invariant-loop-k l = resolve (zone_read l.zone) l.c ≡ resolve_at l.zone.file.now l.zone.places l.k l.c
