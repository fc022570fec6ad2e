use mathlib.Core.Path.{sym, ◌∙◌}
use Rattle.std.proofs.Common.{arith}
use Rattle.std.proofs.lemmas.Bool.Decides.{nat_tests}
use Rattle.tzif.specs.File.{block_of}
use Rattle.tzif.proofs.Blocks.{block}
use Rattle.tzif.proofs.file.check_block.Goals as goal

pub places_at-requires : goal.places_at-requires
places_at-requires c = (block _ _ _ (sym c.is_block.ensures ∙ c.if-is_block.true)).within

pub returns-then-is_block : goal.returns-then-is_block
unfolding block_of
returns-then-is_block c = grind (arith, nat_tests)

pub returns-else-is_block : goal.returns-else-is_block
unfolding block_of
returns-else-is_block c = grind (arith, nat_tests)
