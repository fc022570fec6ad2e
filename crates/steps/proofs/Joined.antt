-- What joining keeps: where a list leads, that neighbours are apart, and its form; and that it adds at most one step.
use Prim.Native.Nat.{ℕ, suc, ◌+◌, ◌≤◌, ◌<◌}
use native.Mathlib.Omega.{arith}
use mathlib.Core.Path.{◌≡◌, refl, ap, sym, subst, ◌∙◌}
use mathlib.Core.Bool.{Bool, true, false, cond, beq}
use mathlib.Core.List.{List, [], ◌∷◌}
use lib.ListN.{length}
use Rattle.std.specs.Prelude.{Option, Some, None}
use Rattle.calendar.specs.Moments.{Reach, moment, and_then}
use Rattle.numbers.specs.Slices.{one_if}
use Rattle.calendar.proofs.Outcomes.{then_same, then_moment, then_assoc}
use Rattle.evaluation.specs.Worlds.{World, Lawful}
use Rattle.steps.specs.Joining.{refuses, fixed, fixed_of, together, join_of, joined, add_step, are_apart, all_apart}
use Rattle.steps.specs.Running.{start_in, move_in, act_in, walk_in, is_start, is_time_step, count_of, starts, times}
use Rattle.steps.specs.declared.plan.Start.{Start}
use Rattle.steps.specs.declared.plan.Start.TheVariants.{Now, Senseless, OnDate, InWeek, FromToday}
use Rattle.steps.specs.declared.plan.Move.{Move}
use Rattle.steps.specs.declared.plan.Move.TheVariants.{Minutes, Months, Years, BackTo, ForwardTo}
use Rattle.steps.specs.declared.plan.Step.{Step}
use Rattle.steps.specs.declared.plan.Step.TheVariants.{From, By, AtTime}
use Rattle.steps.specs.declared.plan.Length.{Length}
use Rattle.steps.specs.declared.plan.Join.{Join}
use Rattle.steps.specs.declared.plan.Join.TheVariants.{Alone, Apart, One}

-- a fixed length as a step
abbrev pub minutes : Bool → ℕ → Step
minutes back m = By (Minutes back m)

-- what the last step of a list and one behind it can be
pub data Meeting (x s : Step) : Type 0 where
  refusal : x ≡ From Senseless → join_of x s ≡ Alone → Meeting x s
  apart : join_of x s ≡ Apart → Meeting x s
  lengths : (back : Bool) (m k : ℕ) → x ≡ minutes back m → s ≡ minutes back k → join_of x s ≡ One (fixed back (m + k)) → Meeting x s

behind_minutes : (back : Bool) (m : ℕ) (s : Step) → Meeting (minutes back m) s
behind_minutes back m (From s) = apart refl
behind_minutes true m (By (Minutes true k)) = lengths true m k refl refl refl
behind_minutes true m (By (Minutes false k)) = apart refl
behind_minutes false m (By (Minutes true k)) = apart refl
behind_minutes false m (By (Minutes false k)) = lengths false m k refl refl refl
behind_minutes back m (By (Months too k)) = apart refl
behind_minutes back m (By (Years too k)) = apart refl
behind_minutes back m (By (BackTo w)) = apart refl
behind_minutes back m (By (ForwardTo w)) = apart refl
behind_minutes back m (AtTime time) = apart refl

pub meeting : (x s : Step) → Meeting x s
meeting (From Now) s = apart refl
meeting (From Senseless) s = refusal refl refl
meeting (From (OnDate d)) s = apart refl
meeting (From (InWeek r w)) s = apart refl
meeting (From (FromToday w)) s = apart refl
meeting (By (Minutes back m)) s = behind_minutes back m s
meeting (By (Months back k)) s = apart refl
meeting (By (Years back k)) s = apart refl
meeting (By (BackTo w)) s = apart refl
meeting (By (ForwardTo w)) s = apart refl
meeting (AtTime time) s = apart refl

module _ {S : Type 0} (w : World S) (Good : S → Type 0) (lawful : Lawful w Good) where
  -- what a civil answer settles at, and a fixed length leads to, is good: so is what any step leads to
  move_good : (m : Move) (x y : S) → Good x → move_in w m x ≡ moment y → Good y
  move_good (Minutes back k) x y g e = lawful.fixed_good back k x y g e
  move_good (Months back k) x y g e = lawful.settle_good _ y e
  move_good (Years back k) x y g e = lawful.settle_good _ y e
  move_good (BackTo d) x y g e = lawful.settle_good _ y e
  move_good (ForwardTo d) x y g e = lawful.settle_good _ y e

  start_good : (s : Start) (x y : S) → Good x → start_in w s x ≡ moment y → Good y
  start_good Now x y g e = let same : x ≡ y = cc in subst Good same g
  start_good Senseless x y g e = let z : ◌≡◌ {A = ℕ} 0 1 = cc in absurd (omega arith)
  start_good (OnDate d) x y g e = lawful.settle_good _ y e
  start_good (InWeek s d) x y g e = lawful.settle_good _ y e
  start_good (FromToday d) x y g e = lawful.settle_good _ y e

  act_good : (s : Step) (n x y : S) → Good x → act_in w s n x ≡ moment y → Good y
  act_good (From s) n x y g e = start_good s x y g e
  act_good (By m) n x y g e = move_good m x y g e
  act_good (AtTime time) n x y g e = lawful.settle_good _ y e

  -- the last step and one behind it
  pair : {a s : Step} → Meeting a s → (n x : S) → Good x → walk_in w (joined (join_of a s) a s) n x ≡ and_then (act_in w a n x) (act_in w s n)
  pair (refusal e j) n x g = rw (j, e)
  pair {a} {s} (apart j) n x g = rw j (then_same (act_in w a n x) (walk_in w (s ∷ []) n) (act_in w s n) (λ y _. then_moment (act_in w s n y)))
  pair (lengths back m k e f j) n x g = rw (j, e, f, lawful.joins back m k x g) (then_moment _)

  -- a list with one step more leads where that step leads from the list's end
  pub walk_add : (ss : List Step) (s : Step) (n x : S) → Good x → walk_in w (add_step ss s) n x ≡ and_then (walk_in w ss n x) (act_in w s n)
  walk_add [] s n x g = then_moment (act_in w s n x)
  walk_add (a ∷ []) s n x g =
      pair (meeting a s) n x g ∙ ap (λ (o : Reach S). and_then o (act_in w s n)) (sym (then_moment (act_in w a n x)))
  walk_add (a ∷ b ∷ bs) s n x g =
      then_same (act_in w a n x) (walk_in w (add_step (b ∷ bs) s) n) (λ y. and_then (walk_in w (b ∷ bs) n y) (act_in w s n))
      (λ y e. walk_add (b ∷ bs) s n y (act_good a n x y g e))
      ∙ sym (then_assoc (act_in w a n x) (walk_in w (b ∷ bs) n) (act_in w s n))

-- it has at least one step and at most one more
joined_length : (j : Join) (x s : Step) → (0 < length (joined j x s)) × (length (joined j x s) ≤ 2)
joined_length Alone x s = (omega arith, omega arith)
joined_length Apart x s = (omega arith, omega arith)
joined_length (One m) x s = (omega arith, omega arith)

pub length-add : (ss : List Step) (s : Step) → (0 < length (add_step ss s)) × (length (add_step ss s) ≤ suc (length ss))
length-add [] s = (omega arith, omega arith)
length-add (x ∷ []) s = joined_length (join_of x s) x s
length-add (x ∷ y ∷ ys) s = (omega arith, omega (arith, length-add (y ∷ ys) s))

-- whether a step and a fixed length are apart does not depend on how long that is
any_length : (w : Step) (back : Bool) (k m : ℕ) → are_apart (join_of w (minutes back k)) ≡ are_apart (join_of w (minutes back m))
any_length w back k m = by_test (refuses w) (fixed_of w)
  where
    one :
        (b too : Bool) (a : ℕ) → are_apart (cond b (One (fixed too (a + k))) Apart) ≡ are_apart (cond b (One (fixed too (a + m))) Apart)
    one true too a = refl
    one false too a = refl

    by_test :
        (b : Bool) (f : Option Length) →
        are_apart (cond b Alone (together f (Some (fixed back k)))) ≡ are_apart (cond b Alone (together f (Some (fixed back m))))
    by_test true f = refl
    by_test false None = refl
    by_test false (Some l) = one (beq l.back back) l.back l.count

-- the only step of a list, with another one in front of it
front_one : (w : Step) {x s : Step} → Meeting x s → all_apart (w ∷ x ∷ []) ≡ true → all_apart (w ∷ joined (join_of x s) x s) ≡ true
front_one w (refusal e j) h = rw j h
front_one w (apart j) h = rw (j, j) h
front_one w (lengths back m k e f j) h = rw (j, any_length w back (m + k) m) (rw e at h)

-- the steps of a list, with another one in front of them
front : (w x : Step) (ss : List Step) (s : Step) → all_apart (w ∷ x ∷ ss) ≡ true → all_apart (w ∷ add_step (x ∷ ss) s) ≡ true
front w x [] s h = front_one w (meeting x s) h
front w x (y ∷ ys) s h = further (are_apart (join_of w x)) (front x y ys s) h
  where
    further : (b : Bool) {c d : Bool} → (c ≡ true → d ≡ true) → cond b c false ≡ true → cond b d false ≡ true
    further true f e = f e
    further false f e = e

only : {x s : Step} → Meeting x s → all_apart (joined (join_of x s) x s) ≡ true
only (refusal e j) = rw j
only (apart j) = rw (j, j)
only (lengths back m k e f j) = rw j

-- a list whose neighbours are apart stays so
pub apart_add : (ss : List Step) (s : Step) → all_apart ss ≡ true → all_apart (add_step ss s) ≡ true
apart_add [] s h = refl
apart_add (x ∷ []) s h = only (meeting x s)
apart_add (x ∷ y ∷ ys) s h = front x y ys s h

-- a step that is not of a kind leaves those of the kind as many as they are, where fixed lengths are not of it either
module _ (is_kind : Step → Bool) (no_length : (back : Bool) (k : ℕ) → is_kind (minutes back k) ≡ false) where
  joined_count : {x s : Step} → Meeting x s → is_kind s ≡ false → count_of is_kind (joined (join_of x s) x s) ≡ count_of is_kind (x ∷ [])
  joined_count (refusal e j) h = rw j
  joined_count (apart j) h = rw (j, h)
  joined_count (lengths back m k e f j) h = rw (j, e, no_length back (m + k), no_length back m)

  count_add : (ss : List Step) (s : Step) → is_kind s ≡ false → count_of is_kind (add_step ss s) ≡ count_of is_kind ss
  count_add [] s h = rw h
  count_add (x ∷ []) s h = joined_count (meeting x s) h
  count_add (x ∷ y ∷ ys) s h = ap (λ (k : ℕ). one_if (is_kind x) + k) (count_add (y ∷ ys) s h)

-- one that is no start leaves the starts
pub starts_add : (ss : List Step) (s : Step) → is_start s ≡ false → starts (add_step ss s) ≡ starts ss
starts_add = count_add is_start (λ back k. refl)

-- one that is no time step leaves the time steps
pub times_add : (ss : List Step) (s : Step) → is_time_step s ≡ false → times (add_step ss s) ≡ times ss
times_add = count_add is_time_step (λ back k. refl)
