-- A rule, one part at a time. Assumes nothing.
use Prim.Native.Nat.{ℕ, suc, ◌<◌}
use native.Mathlib.Omega.{arith}
use mathlib.Core.Path.{◌≡◌}
use mathlib.Core.List.{List, [], ◌∷◌}
use lib.ListN.{length, get_or, drop}
use lib.Seq.{drop-cons}
use Rattle.std.proofs.Common.{Some, None}
use Rattle.rules.specs.Parts.{part_of}
use Rattle.rules.specs.Rules.{begun, put, read_parts, read_pieces}
use Rattle.rules.specs.declared.draft.Draft.{Draft}
use Rattle.rules.specs.declared.part.Part.{Part}

-- by the first piece p
pub begun_on : (ps : List (List ℕ)) (p : List ℕ) → 0 < length ps → p ≡ get_or ps 0 p → (d : Draft) → Some d ≡ begun p → read_pieces ps ≡ read_parts d (drop 1 ps)
begun_on [] p some here d is = absurd (omega arith)
begun_on (q ∷ ps) p some here d is = rw (← here, ← is)

pub begun_none : (ps : List (List ℕ)) (p : List ℕ) → 0 < length ps → p ≡ get_or ps 0 p → None ≡ begun p → read_pieces ps ≡ None
begun_none [] p some here is = absurd (omega arith)
begun_none (q ∷ ps) p some here is = rw (← here, ← is)

-- by the piece p at place i
module _ (d : Draft) (ps : List (List ℕ)) (i : ℕ) (p : List ℕ) (less : i < length ps) (here : p ≡ get_or ps i p) where
  pub part_on : (q : Part) (e : Draft) → Some q ≡ part_of p → Some e ≡ put d q → read_parts d (drop i ps) ≡ read_parts e (drop (suc i) ps)
  part_on q e is placed = rw (drop-cons ps i p, ← here, ← is, ← placed)

  pub part_none : None ≡ part_of p → read_parts d (drop i ps) ≡ None
  part_none is = rw (drop-cons ps i p, ← here, ← is)

  pub put_none : (q : Part) → Some q ≡ part_of p → None ≡ put d q → read_parts d (drop i ps) ≡ None
  put_none q is taken = rw (drop-cons ps i p, ← here, ← is, ← taken)
