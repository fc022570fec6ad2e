-- `lexer::find::look_up` meets its contract. Assumes nothing.
use mathlib.Core.Path.{◌≡◌, ap, ◌∙◌}
use mathlib.Core.List.{List, map}
use Prim.Native.Nat.{ℕ}
use native.Mathlib.Omega.{arith}
use lib.ListN.{take, drop}
use lib.Seq.{take_all, take_at, drop_at}
use Rattle.lexer.specs.Words.{folded}
use Rattle.lexer.specs.Table.{fixed, bytes_from, head_of, tail_of, compared_of, Stands}
use Rattle.lexer.proofs.Cells.{length-fixed}
use Rattle.lexer.proofs.Fixed.{fixed_apart}
use Rattle.lexer.proofs.Keys.{bytes_stand}
use Rattle.lexer.specs.Keywords.{words_in}
use Rattle.lexer.specs.Visits.{looked_up}
use Rattle.lexer.proofs.Visited.{at_most_eight}
use Rattle.lexer.proofs.find.look_up.Goals as goal

-- a row of twelve bytes as two numbers
module _ (v : List ℕ) {row : List ℕ} (is : row ≡ fixed 12 v) where
  first_eight : bytes_from 0 (take 8 (drop 0 row)) ≡ head_of v
  unfolding head_of
  first_eight = rw (is, fixed_apart 8 v) (ap (bytes_from 0) (take_at (fixed 8 v) (fixed 4 (drop 8 v)) 8 (length-fixed 8 v)))

  last_four : bytes_from 0 (take 4 (drop 8 row)) ≡ tail_of v
  unfolding tail_of
  last_four =
      let tail = fixed 4 (drop 8 v) in
      rw (is, fixed_apart 8 v, drop_at (fixed 8 v) tail 8 (length-fixed 8 v))
      (ap (bytes_from 0) (take_all 4 tail (omega (arith, length-fixed 4 (drop 8 v)))))

pub returns : goal.returns
returns c =
    let word = folded c.args.word.now in
    let v = map compared_of word in
    let head = c.bytes_at-head in
    let tail = c.bytes_at-tail in
    let row = c.row_of-row.ensures in
    let stands : Stands head.result tail.result word =
    rw (head.ensures ∙ first_eight v row, tail.ensures ∙ last_four v row) (bytes_stand word) in
    let value : c.find.result ≡ looked_up (words_in c.args.reading) word = rw c.of.ensures at (c.find.ensures word stands) in
    record { value = value; most = rw value (at_most_eight c.args.reading word) }
