use Rattle.fuzzydate.proofs.NextNumbers.{told_whole}
use Rattle.fuzzydate.proofs.fuzzy_next.Goals as goal

pub returns : goal.returns
returns c =
    let start = c.into in
    let asked = c.into-2 in
    let whole = told_whole c.args.rule.now start.result asked.result in
    let next_of = c.next_of.ensures in
    record {
      value = rw (← start.ensures, ← asked.ensures, ← whole, ← next_of) c.reached.ensures.value;
      moment_after = rw (← start.ensures, ← asked.ensures, ← whole, ← next_of) c.reached.ensures.moment_after;
    }
