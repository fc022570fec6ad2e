-- A front of a front, and its end. Assumes nothing.
use Prim.Native.Nat.{ℕ, zero, suc, ◌-◌, ◌≤◌, min}
use native.Mathlib.Omega.{arith}
use mathlib.Core.Path.{◌≡◌, refl, sym}
use mathlib.Core.Bool.{Bool, true, false}
use mathlib.Core.List.{List, [], ◌∷◌}
use lib.Dec.{leb}
use lib.ListN.{take, drop, length-take}
use lib.Seq.{take_all, take-take, take-nil}
use borrow.Author.Tests.{leb-true, leb-false}

pub take-least : (m n : ℕ) (l : List ℕ) → take m (take n l) ≡ take (min m n) l
take-least m n l = go (leb m n) refl
  where
    go : (b : Bool) → leb m n ≡ b → take m (take n l) ≡ take (min m n) l
    go true e =
        let h = leb-true m n e in
        let least : min m n ≡ m = omega arith in
        rw least (take-take m n l h)
    go false e =
        let h = leb-false m n e in
        let least : min m n ≡ n = omega arith in
        rw least (take_all m (take n l) (rw length-take (omega arith)))

-- the end of a front
pub drop-take : (a e : ℕ) (l : List ℕ) → a ≤ e → drop a (take e l) ≡ take (e - a) (drop a l)
drop-take zero e l h = let all : e - 0 ≡ e = omega arith in rw all
drop-take (suc a) zero l h = absurd (omega arith)
drop-take (suc a) (suc e) [] h = sym (take-nil (suc e - suc a))
drop-take (suc a) (suc e) (x ∷ l) h =
    let less : suc e - suc a ≡ e - a = omega arith in
    rw less (drop-take a e l (omega arith))
