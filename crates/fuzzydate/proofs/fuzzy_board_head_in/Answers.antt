use Rattle.std.proofs.Common.{rules}
use native.Mathlib.Omega.{arith}
use Rattle.fuzzydate.proofs.fuzzy_board_head_in.Goals as goal

pub returns-in-Some : goal.returns-in-Some
returns-in-Some c =
    let head = c.head.ensures in
    let is = c.in-Some.is in
    record {
      value = (λ ready lengths. rw (← (head ready lengths), is));
      moment_after = λ ready lengths. rw (← (head ready lengths), is) c.into.ensures;
    }

pub returns-in-None : goal.returns-in-None
returns-in-None c =
    let head = c.head.ensures in
    let is = c.in-None.is in
    let number = c.number.ensures.value in
    record {
      value = (λ ready lengths. rw (← (head ready lengths), is) (omega (arith, number)));
      moment_after = λ ready lengths. rw (← (head ready lengths), is) (search rules);
    }
