-- `rules::read::read_rule` meets its contract. The loop's invariant: what the draft and the parts that are left say is what all say. Assumes nothing.
use mathlib.Core.Path.{◌≡◌}
use Prim.Native.Nat.{suc}
use lib.ListN.{length, drop}
use Rattle.rules.specs.Cut.{pieces}
use Rattle.rules.specs.Rules.{read_parts, read_pieces}
use Rattle.rules.proofs.read.read_rule.Given as goal

abbrev pub invariant-loop-part : goal.invariant-loop-part
invariant-loop-part l = read_pieces (pieces 59 l.text) ≡ read_parts l.draft (drop (suc (length l.yielded)) (pieces 59 l.text))
