use Prim.Native.Nat.{ℕ}
use mathlib.Core.Bool.{Bool}
use Rattle.std.proofs.Common.{refl, arith, rules, tests}
use Rattle.std.proofs.lemmas.Iterator.{YieldsList-from_range}
use Rattle.std.proofs.lemmas.Iterator.Search.{all_from_yields_List}
use Rattle.tzif.specs.File.{is_type}
use Rattle.tzif.proofs.Entries.{each_listed}
use Rattle.tzif.proofs.tables.are_types.Goals as goal

pub returns : goal.returns
returns c =
    let count = c.args.h.typecnt in
    let test : ℕ → Bool = is_type c.args.file.now c.args.b c.args.h in
    rw (← (each_listed test 0 count))
    (all_from_yields_List test _ _ _ c.all.ensures.ran
    (YieldsList-from_range 0 _ count refl (omega arith)) (λ x b q k. search (rules, tests)))
