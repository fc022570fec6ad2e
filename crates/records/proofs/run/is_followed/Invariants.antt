use Prim.Native.Nat.{◌-◌, ◌≤◌}
use mathlib.Core.Path.{◌≡◌}
use Rattle.records.specs.Records.{may_follow}
use Rattle.records.proofs.Runs.{follow_from}
use Rattle.records.proofs.run.is_followed.Given as goal

-- the records that are left decide, with the time steps found before them
abbrev pub invariant-loop-i : goal.invariant-loop-i
invariant-loop-i l = (l.found ≤ l.i) × (follow_from l.due l.found l.i-end l.i l.b ≡ may_follow l.due (l.i-end - 1) l.b 16)
