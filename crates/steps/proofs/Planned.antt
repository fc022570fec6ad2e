-- A plan holds its list: what is read out of it is what was put in, and `add_to` is `add_step`.
use Prim.Native.Nat.{ℕ, zero, suc, ◌≤◌, ◌<◌}
use native.Mathlib.Omega.{arith}
use native.Mathlib.Numerals.{sub-one}
use mathlib.Core.Path.{◌≡◌, refl, ap, ◌∙◌}
use mathlib.Core.List.{List, [], ◌∷◌, ◌++◌}
use lib.ListN.{length, length-append, set, get_or, take}
use Rattle.steps.specs.Joining.{join_of, joined, add_step}
use Rattle.steps.specs.Plans.{blank_step, steps_in, slots_of, plan_of, pushed, last_of, added_by, add_to}
use Rattle.steps.specs.declared.plan.Join.{Join}
use Rattle.steps.specs.declared.plan.Join.TheVariants.{Alone, Apart, One}
use Rattle.steps.specs.declared.plan.Move.TheVariants.{Minutes}
use Rattle.steps.specs.declared.plan.Step.{Step}
use Rattle.steps.specs.declared.plan.Step.TheVariants.{By}

-- the steps that were put in
taken : (k : ℕ) (ss : List Step) → length ss ≤ k → take (length ss) (slots_of k ss) ≡ ss
taken zero [] h = refl
taken zero (s ∷ ss) h = absurd (omega arith)
taken (suc k) [] h = refl
taken (suc k) (s ∷ ss) h = ap (λ (l : List Step). s ∷ l) (taken k ss (omega arith))

-- a plan's list
pub steps_in_lem : (ss : List Step) → length ss ≤ 24 → steps_in (plan_of ss) ≡ ss
unfolding plan_of
steps_in_lem ss h = taken 24 ss h

-- the last step of a list that has one
abbrev last : Step → List Step → Step
last x [] = x
last x (y ∷ ys) = last y ys

-- another step in its place
abbrev swapped : Step → List Step → Step → List Step
swapped x [] s = s ∷ []
swapped x (y ∷ ys) s = x ∷ swapped y ys s

-- one step more, by what becomes of it and the last one
abbrev grown : Join → Step → List Step → Step → List Step
grown Alone x ss s = x ∷ ss
grown Apart x ss s = (x ∷ ss) ++ (s ∷ [])
grown (One m) x ss s = swapped x ss (By (Minutes m.back m.count))

grown_one : (j : Join) (x s : Step) → joined j x s ≡ grown j x [] s
grown_one Alone x s = refl
grown_one Apart x s = refl
grown_one (One m) x s = refl

grown_front : (j : Join) (x y : Step) (ys : List Step) (s : Step) → x ∷ grown j y ys s ≡ grown j x (y ∷ ys) s
grown_front Alone x y ys s = refl
grown_front Apart x y ys s = refl
grown_front (One m) x y ys s = refl

add-grown : (x : Step) (ss : List Step) (s : Step) → add_step (x ∷ ss) s ≡ grown (join_of (last x ss) s) x ss s
add-grown x [] s = grown_one (join_of x s) x s
add-grown x (y ∷ ys) s = ap (λ (l : List Step). x ∷ l) (add-grown y ys s) ∙ grown_front (join_of (last y ys) s) x y ys s

last_slot : (k : ℕ) (x : Step) (ss : List Step) → length ss < k → get_or (slots_of k (x ∷ ss)) (length ss) blank_step ≡ last x ss
last_slot zero x ss h = absurd (omega arith)
last_slot (suc k) x [] h = refl
last_slot (suc k) x (y ∷ ys) h = last_slot k y ys (omega arith)

behind : (k : ℕ) (ss : List Step) (s : Step) → length ss < k → set (slots_of k ss) (length ss) s ≡ slots_of k (ss ++ (s ∷ []))
behind zero ss s h = absurd (omega arith)
behind (suc k) [] s h = refl
behind (suc k) (y ∷ ys) s h = ap (λ (l : List Step). y ∷ l) (behind k ys s (omega arith))

in_place : (k : ℕ) (x : Step) (ss : List Step) (s : Step) → length ss < k → set (slots_of k (x ∷ ss)) (length ss) s ≡ slots_of k (swapped x ss s)
in_place zero x ss s h = absurd (omega arith)
in_place (suc k) x [] s h = refl
in_place (suc k) x (y ∷ ys) s h = ap (λ (l : List Step). x ∷ l) (in_place k y ys s (omega arith))

length-swapped : (x : Step) (ss : List Step) (s : Step) → length (swapped x ss s) ≡ suc (length ss)
length-swapped x [] s = refl
length-swapped x (y ∷ ys) s = ap suc (length-swapped y ys s)

-- one step more, where there is room for it
pub pushed_is : (ss : List Step) (s : Step) → length ss < 24 → pushed (plan_of ss) s ≡ plan_of (ss ++ (s ∷ []))
unfolding plan_of
pushed_is ss s h = rw (behind 24 ss s h, length-append)

added_by_lem : (j : Join) (x : Step) (ss : List Step) (s : Step) → length ss < 23 → added_by j (plan_of (x ∷ ss)) s ≡ plan_of (grown j x ss s)
unfolding plan_of
added_by_lem Alone x ss s h = refl
added_by_lem Apart x ss s h = pushed_is (x ∷ ss) s (omega arith)
added_by_lem (One m) x ss s h =
    rw (sub-one, in_place 24 x ss (By (Minutes m.back m.count)) (omega arith), length-swapped x ss (By (Minutes m.back m.count)))

last_of_lem : (x : Step) (ss : List Step) → length ss < 24 → last_of (plan_of (x ∷ ss)) ≡ last x ss
unfolding plan_of
last_of_lem x ss h = rw (sub-one, last_of) (last_slot 24 x ss h)

-- one step more on a plan is one step more on its list
pub added : (x : Step) (ss : List Step) (s : Step) → length ss < 23 → add_to (plan_of (x ∷ ss)) s ≡ plan_of (add_step (x ∷ ss) s)
unfolding add_to
added x ss s h = rw (last_of_lem x ss (omega arith), add-grown x ss s) (added_by_lem (join_of (last x ss) s) x ss s h)
