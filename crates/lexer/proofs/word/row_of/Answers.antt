-- `lexer::word::row_of` meets its contract. Assumes nothing.
use mathlib.Core.Path.{◌≡◌, ap, ◌∙◌}
use mathlib.Core.List.{List, map}
use Prim.Native.Nat.{ℕ, ◌+◌, ◌<◌, min}
use native.Mathlib.Numerals.{add-one}
use native.Mathlib.Omega.{arith}
use lib.ListN.{length, get_or, set, take, length-map, get_or-map}
use lib.Seq.{take_all}
use Rattle.lexer.specs.Words.{lower_of, folded}
use Rattle.lexer.specs.Table.{fixed, compared_of}
use Rattle.lexer.proofs.Fixed.{fixed_set, fixed_take}
use Rattle.digits.proofs.Order.{Tri, below, equal, above, tri}
use Rattle.lexer.proofs.word.row_of.Goals as goal

module _ (word : List ℕ) where
  -- its bytes as they are compared
  abbrev bytes : List ℕ
  bytes = map compared_of (folded word)

  bytes_length : length bytes ≡ length word
  bytes_length = length-map (folded word) compared_of ∙ length-map word lower_of

  -- one more of them in its place
  next : (row : List ℕ) (i : ℕ) {b : ℕ} → row ≡ fixed 12 (take i bytes) → i < 12 → i < length word → b ≡ compared_of (lower_of (get_or word i 0))
      → set row i b ≡ fixed 12 (take (i + 1) bytes)
  next row i is h l e =
      let byte = get_or-map compared_of (folded word) i (lower_of 0) ∙ ap compared_of (get_or-map lower_of word i 0) in
      rw (e, ← byte, is, add-one) (fixed_set 12 i bytes (compared_of (lower_of 0)) h (omega (arith, bytes_length)))

  -- the first 12 of them, or all, are those that have a place
  last : (i : ℕ) → i ≡ min (length word) 12 → fixed 12 (take i bytes) ≡ fixed 12 bytes
  last i e = go (tri (length word) 12)
    where
      go : Tri (length word) 12 → fixed 12 (take i bytes) ≡ fixed 12 bytes
      go (below l) = ap (fixed 12) (take_all i bytes (omega (arith, bytes_length)))
      go (equal q) = ap (fixed 12) (take_all i bytes (omega (arith, bytes_length)))
      go (above l) = let n : i ≡ 12 = omega arith in rw n (fixed_take 12 bytes)

pub loop-i-preserved : goal.loop-i-preserved
loop-i-preserved c = next c.args.word.now c.loop-i.row c.loop-i.i c.loop-i.invariant (omega arith) (omega arith) c.compared.ensures

pub returns : goal.returns
returns c = c.loop-i.invariant ∙ last c.args.word.now c.loop-i.i (omega arith)
