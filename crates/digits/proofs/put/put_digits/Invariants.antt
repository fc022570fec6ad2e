-- `digits::put::put_digits` meets its contract. The loop's invariant: the digits from i on are written. Assumes nothing.
use mathlib.Core.Path.{◌≡◌}
use mathlib.Core.List.{List, ◌++◌}
use Prim.Native.Nat.{ℕ, ◌+◌, ◌≤◌}
use lib.Seq.{sets}
use Rattle.digits.specs.Digits.{digits_of}
use Rattle.digits.proofs.put.put_digits.Given as goal

pub record Behind (out₀ out : List ℕ) (at k n i rest : ℕ) : Type 0 where
  pub done : List ℕ
  pub within : i ≤ k
  pub stored : out ≡ sets out₀ (at + i) done
  pub digits : digits_of k n ≡ digits_of i rest ++ done

abbrev pub invariant-loop-i : goal.invariant-loop-i
invariant-loop-i l = Behind l.initial.out l.out l.at l.k l.n l.i l.rest
