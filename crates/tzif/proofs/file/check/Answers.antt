use Prim.Native.Nat.{ℕ, ◌+◌}
use mathlib.Core.Path.{◌≡◌, sym, ap, ◌∙◌}
use Rattle.std.proofs.Common.{arith}
use Rattle.std.proofs.lemmas.Bool.Decides.{nat_tests}
use Rattle.tzif.specs.File.{block_length, second_at, block_of, checked_of}
use Rattle.tzif.specs.declared.file.Header.{Header}
use Rattle.tzif.proofs.Blocks.{header_within}
use Rattle.tzif.proofs.file.check.Goals as goal
use Rattle.tzif.proofs.file.check.Goals.{After-block_length-at, Else-not-is_header-2}

-- where the second header begins
second : (c : After-block_length-at) → 44 + c.block_length-at.result ≡ second_at c.args.file.now
unfolding second_at
second c =
    ap (λ (n : ℕ). 44 + n) c.block_length-at.ensures ∙ ap (λ (h : Header). 44 + block_length 4 h) c.header_at-h.ensures.0

-- behind both headers the block decides
block_decides : (c : Else-not-is_header-2) → checked_of c.args.file.now ≡ block_of c.args.file.now (44 + c.block_length-at.result)
unfolding checked_of
block_decides c = let at = second (goal.at.Else-not-is_header-2 c).After-block_length-at in grind (arith, nat_tests)

pub returns-then-file-gt-MOST : goal.returns-then-file-gt-MOST
unfolding checked_of
returns-then-file-gt-MOST c = grind (arith, nat_tests)

pub header_at-h-requires : goal.header_at-h-requires
header_at-h-requires c = header_within _ 0 (sym c.is_header.ensures ∙ c.if-not-is_header.false)

pub returns-then-not-is_header-2-clause-places : goal.returns-then-not-is_header-2-clause-places
unfolding checked_of
returns-then-not-is_header-2-clause-places c =
    let at = second (goal.at.returns-then-not-is_header-2-clause-places c).After-block_length-at in
    grind (arith, nat_tests)

pub check_block-requires : goal.check_block-requires
check_block-requires c = (header_within _ _ (sym c.is_header-2.ensures ∙ c.if-not-is_header-2.false), c.if-file-gt-MOST.false)

pub returns-in_err-places-clause-places : goal.returns-in_err-places-clause-places
returns-in_err-places-clause-places c =
    let decides = block_decides (goal.at.returns-in_err-places-clause-places c).Else-not-is_header-2 in
    let none = c.in_err-places.was in
    rw c.from_residual.ensures (cc)

pub invariant_of-result : goal.invariant_of-result
invariant_of-result c = record {
  checked =
      block_decides (goal.at.invariant_of-result c).Else-not-is_header-2 ∙ sym c.check_block.ensures ∙ c.in_ok-places.was;
}
