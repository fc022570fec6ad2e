use native.Mathlib.Omega.{arith}
use Rattle.std.proofs.lemmas.Grind.{common_steps}
use Rattle.refusals.proofs.Holds.{part_within}
use Rattle.phrase.proofs.Phrases.{read_holds, was_refused}
use Rattle.phrase.proofs.read.offending.Goals as goal

pub part-requires-in-Err : goal.part-requires-in-Err
part-requires-in-Err c =
    let within = part_within (read_holds c.args.reading c.args.phrase.now) in
    let refused = was_refused c.args.reading c.args.phrase.now c.read.ensures c.in-Err.is in
    grind (arith, common_steps, within, refused)
