-- `text::line::line_end` meets its contract. Assumes nothing.
use Prim.Native.Nat.{◌+◌, ◌≤◌}
use native.Mathlib.Nat.{add-zero}
use native.Mathlib.Omega.{arith}
use borrow.Author.Tests.{le-ltb, lt-ltb}
use lib.ListN.{length, drop, drop_of_length-le}
use lib.Seq.{take-length}
use mathlib.Core.Path.{◌≡◌}
use Rattle.scan.specs.Bytes.{slice, index_of}
use Rattle.text.specs.Lines.{feed, line_end}
use Rattle.text.proofs.line.line_end.Goals as goal
use Rattle.text.proofs.line.line_end.Goals.{Else-s-at, After-find-end}

-- where the first line feed stands from there on
found : (c : After-find-end) → c.find-end.result ≡ c.args.at + index_of feed (drop c.args.at c.args.s.now)
unfolding slice
found c = rw take-length at c.find-end.ensures.value

pub returns-then-s-at : goal.returns-then-s-at
unfolding line_end index_of
returns-then-s-at c =
    let args = c.args in
    let past : length args.s.now ≤ args.at = omega arith in
    rw (drop_of_length-le args.s.now past, add-zero, le-ltb args.at (length args.s.now) past)

pub returns-then-end-s : goal.returns-then-end-s
unfolding line_end
returns-then-end-s c = let inside = c.if-end-s.true in rw (← (found (goal.at.returns-then-end-s c).After-find-end), lt-ltb _ _ inside)

pub returns-else-end-s : goal.returns-else-end-s
unfolding line_end
returns-else-end-s c = let past = c.if-end-s.false in rw (← (found (goal.at.returns-else-end-s c).After-find-end), le-ltb _ _ past)
