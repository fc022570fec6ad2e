-- The first bytes of a word as a row has them: one after the other, and in two parts. Assumes nothing.
use mathlib.Core.Path.{◌≡◌, refl, ap, ◌∙◌}
use mathlib.Core.List.{List, [], ◌∷◌, ◌++◌}
use Prim.Native.Nat.{ℕ, zero, suc, ◌%◌, ◌<◌}
use native.Mathlib.Nat.{not-suc-le-zero, le_of_suc-le-suc}
use native.Mathlib.Omega.{arith}
use lib.ListN.{length, get_or, set, take, drop}
use lib.Seq.{drop-nil}
use Rattle.lexer.specs.Table.{filler, fixed}

-- a byte more in its place
pub fixed_set : (n i : ℕ) (w : List ℕ) (d : ℕ) → i < n → i < length w
    → set (fixed n (take i w)) i (get_or w i d) ≡ fixed n (take (suc i) w)
fixed_set zero i w d h l = absurd (not-suc-le-zero h)
fixed_set (suc n) i [] d h l = absurd (not-suc-le-zero l)
fixed_set (suc n) zero (b ∷ w) d h l = refl
fixed_set (suc n) (suc i) (b ∷ w) d h l = ap (◌∷◌ b) (fixed_set n i w d (le_of_suc-le-suc h) (le_of_suc-le-suc l))

-- all of its bytes
pub fixed_take : (n : ℕ) (w : List ℕ) → fixed n (take n w) ≡ fixed n w
fixed_take zero w = refl
fixed_take (suc n) [] = refl
fixed_take (suc n) (b ∷ w) = ap (◌∷◌ b) (fixed_take n w)

-- the last four are those of the word behind the others
pub fixed_apart : (n : ℕ) (w : List ℕ) → fixed (suc (suc (suc (suc n)))) w ≡ fixed n w ++ fixed 4 (drop n w)
fixed_apart zero w = refl
fixed_apart (suc n) [] =
    let same : suc (suc (suc (suc n))) % 2 ≡ n % 2 = omega arith in
    rw same (ap (◌∷◌ (filler n)) (fixed_apart n [] ∙ ap (λ (l : List ℕ). fixed n [] ++ fixed 4 l) (drop-nil n)))
fixed_apart (suc n) (b ∷ w) = ap (◌∷◌ b) (fixed_apart n w)
