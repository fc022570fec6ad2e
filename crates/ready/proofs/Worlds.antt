-- Lists of steps in a lawful world, with one step more: ahead of the time of day, the time step, and behind it.
use Prim.Native.Nat.{ℕ, ◌<◌}
use native.Mathlib.Omega.{arith}
use mathlib.Core.Path.{◌≡◌, refl, ap, sym, ◌∙◌}
use mathlib.Core.Bool.{Bool, true, false, cond, ◌&&◌, and-eq-true_iff}
use mathlib.Core.List.{List, [], ◌∷◌}
use lib.Dec.{eqb}
use borrow.Author.Tests.{eqb-true}
use Rattle.refusals.specs.declared.Reason.TheVariants.{NoSense}
use Rattle.calendar.specs.Moments.{Reach, moment, refused, and_then, Outcome}
use Rattle.calendar.specs.declared.moments.Moment.{Moment}
use Rattle.calendar.proofs.Outcomes.{then_same, then_moment, then_assoc}
use Rattle.dates.specs.declared.time.Time.{Time}
use Rattle.numbers.specs.Slices.{one_if}
use Rattle.evaluation.specs.Times.{time_at}
use Rattle.evaluation.specs.Worlds.{World, Lawful}
use Rattle.steps.specs.Joining.{join_of, joined, add_step}
use Rattle.steps.specs.Running.{act_of, walk_of, move_in, walk_in, is_start, is_time_step, times_due, starts, times, is_formed, is_dated, ahead_in, lead_in}
use Rattle.steps.specs.declared.plan.Move.{Move}
use Rattle.steps.specs.declared.plan.Step.{Step}
use Rattle.steps.specs.declared.plan.Step.TheVariants.{From, By, AtTime}
use Rattle.steps.proofs.Joined.{Meeting, refusal, apart, lengths, meeting, walk_add}
use Rattle.ready.proofs.Forms.{Open, senseless, dated}

-- the first step stays the same kind of start
first_kept : {x s : Step} → Meeting x s → is_dated (joined (join_of x s) x s) ≡ is_dated (x ∷ [])
first_kept (refusal e j) = rw j
first_kept (apart j) = rw j
first_kept (lengths back m k e f j) = rw (j, e)

dated_kept : (x : Step) (ss : List Step) (s : Step) → is_dated (add_step (x ∷ ss) s) ≡ is_dated (x ∷ ss)
dated_kept x [] s = first_kept (meeting x s)
dated_kept x (y ∷ ys) s = refl

-- a list of the form that running asks for has its time step
has_time : (ss : List Step) → is_formed ss ≡ true → is_dated ss ≡ true → 0 < times ss
has_time [] h e = let z : ◌≡◌ {A = ℕ} 0 1 = cc in omega arith
has_time (s ∷ ss) h e =
    let rest = ((and-eq-true_iff (is_start s) (eqb (starts ss) 0 && eqb (times ss) (times_due s))).0 h).1 in
    let due = eqb-true (times ss) (times_due s) ((and-eq-true_iff (eqb (starts ss) 0) (eqb (times ss) (times_due s))).0 rest).1 in
    omega (arith, due, eqb-true (times_due s) 1 e)

-- a start is no time step
start_no_time : (x : Step) → is_start x ≡ true → one_if (is_time_step x) ≡ 0
start_no_time (From s) h = refl
start_no_time (By m) h = refl
start_no_time (AtTime time) h = cc

-- behind a time step nothing is joined with it
behind_time : (time : Time) (ss : List Step) (s : Step) → add_step (AtTime time ∷ ss) s ≡ AtTime time ∷ add_step ss s
behind_time time [] s = refl
behind_time time (y ∷ ys) s = refl

module _ {S : Type 0} (w : World S) (Good : S → Type 0) (lawful : Lawful w Good) (n : S) where
  -- a refusal of the civil date and time is not settled
  settle_then : (o : Outcome) (f : Moment → Outcome) → and_then o (λ t. w.settle (f t)) ≡ w.settle (and_then o f)
  settle_then (moment t) f = refl
  settle_then (refused k) f = sym (lawful.refusal_stays k)

  -- any other step ahead of the time step
  ahead_act : (x : Step) (ss : List Step) (t : Moment) → one_if (is_time_step x) ≡ 0 → ahead_in w (x ∷ ss) n t ≡ and_then (act_of x (w.civil n) t) (ahead_in w ss n)
  ahead_act (From s) ss t h = refl
  ahead_act (By m) ss t h = refl
  ahead_act (AtTime time) ss t h = absurd (omega arith)

  -- where the steps ahead of the time step lead with it
  abbrev timed : List Step → Time → Moment → Outcome
  timed ss time t = and_then (walk_of ss (w.civil n) t) (time_at time (w.civil n))

  -- one step in front of them
  front : (x : Step) (ss us : List Step) (time : Time) (t : Moment) → one_if (is_time_step x) ≡ 0 → ((u : Moment) → ahead_in w us n u ≡ w.settle (timed ss time u)) →
      ahead_in w (x ∷ us) n t ≡ w.settle (timed (x ∷ ss) time t)
  front x ss us time t h e =
      ahead_act x us t h ∙ then_same (act_of x (w.civil n) t) (ahead_in w us n) (λ u. w.settle (timed ss time u)) (λ u _. e u)
      ∙ settle_then (act_of x (w.civil n) t) (timed ss time)
      ∙ ap w.settle (sym (then_assoc (act_of x (w.civil n) t) (walk_of ss (w.civil n)) (time_at time (w.civil n))))

  front_one :
      {x : Step} (time : Time) → Meeting x (AtTime time) → (t : Moment) → one_if (is_time_step x) ≡ 0 →
      ahead_in w (joined (join_of x (AtTime time)) x (AtTime time)) n t ≡ w.settle (timed (x ∷ []) time t)
  front_one time (refusal e j) t h = rw (j, e) (sym (lawful.refusal_stays NoSense))
  front_one {x} time (apart j) t h = rw j (front x [] (AtTime time ∷ []) time t h (λ u. then_moment _))
  front_one time (lengths back m k e f j) t h = let z : ◌≡◌ {A = ℕ} 0 1 = cc in absurd (omega arith)

  ahead_time : (ss : List Step) (time : Time) (t : Moment) → times ss ≡ 0 → ahead_in w (add_step ss (AtTime time)) n t ≡ w.settle (timed ss time t)
  ahead_time [] time t h = then_moment _
  ahead_time (x ∷ []) time t h = front_one time (meeting x (AtTime time)) t (omega arith)
  ahead_time (x ∷ y ∷ ys) time t h =
      front x (y ∷ ys) (add_step (y ∷ ys) (AtTime time)) time t (omega arith) (λ u. ahead_time (y ∷ ys) time u (omega arith))

  -- the steps of a date expression and their time of day
  pub lead_time : {ss : List Step} → Open ss → (time : Time) → lead_in w (add_step ss (AtTime time)) n ≡ w.settle (timed ss time (w.civil n))
  lead_time senseless time = sym (lawful.refusal_stays NoSense)
  lead_time (dated {x} {ss} d) time =
      rw (dated_kept x ss (AtTime time), d.due)
      (ahead_time (x ∷ ss) time (w.civil n) (omega (arith, start_no_time x d.start, d.no_times)))

  -- one step in front of a list with a move more
  in_front_lem :
      (x : Step) (ss us : List Step) (m : Move) (t : Moment) → one_if (is_time_step x) ≡ 0 →
      ((u : Moment) → ahead_in w us n u ≡ and_then (ahead_in w ss n u) (move_in w m)) → ahead_in w (x ∷ us) n t ≡ and_then (ahead_in w (x ∷ ss) n t) (move_in w m)
  in_front_lem x ss us m t h e =
      ahead_act x us t h ∙ then_same (act_of x (w.civil n) t) (ahead_in w us n) (λ u. and_then (ahead_in w ss n u) (move_in w m)) (λ u _. e u)
      ∙ sym (then_assoc (act_of x (w.civil n) t) (ahead_in w ss n) (move_in w m))
      ∙ ap (λ (o : Reach S). and_then o (move_in w m)) (sym (ahead_act x ss t h))

  -- a move behind the time step
  ahead_move : (ss : List Step) (m : Move) (t : Moment) → 0 < times ss → ahead_in w (add_step ss (By m)) n t ≡ and_then (ahead_in w ss n t) (move_in w m)
  ahead_move [] m t h = absurd (omega arith)
  ahead_move (From s ∷ []) m t h = absurd (omega arith)
  ahead_move (By a ∷ []) m t h = absurd (omega arith)
  ahead_move (From s ∷ y ∷ ys) m t h = in_front_lem (From s) (y ∷ ys) (add_step (y ∷ ys) (By m)) m t refl (λ u. ahead_move (y ∷ ys) m u (omega arith))
  ahead_move (By a ∷ y ∷ ys) m t h = in_front_lem (By a) (y ∷ ys) (add_step (y ∷ ys) (By m)) m t refl (λ u. ahead_move (y ∷ ys) m u (omega arith))
  ahead_move (AtTime time ∷ ss) m t h =
      rw (behind_time time ss (By m))
      (then_same (w.settle (time_at time (w.civil n) t)) (walk_in w (add_step ss (By m)) n) (λ x. and_then (walk_in w ss n x) (move_in w m))
      (λ x e. walk_add w Good lawful ss (By m) n x (lawful.settle_good _ x e))
      ∙ sym (then_assoc (w.settle (time_at time (w.civil n) t)) (walk_in w ss n) (move_in w m)))

  -- a move behind a list that may be run is a move from where the list leads
  pub lead_move : Good n → (ss : List Step) (m : Move) → is_formed ss ≡ true → lead_in w (add_step ss (By m)) n ≡ and_then (lead_in w ss n) (move_in w m)
  lead_move g [] m h = let z : ◌≡◌ {A = ℕ} 0 1 = cc in absurd (omega arith)
  lead_move g (x ∷ ss) m h = rw (dated_kept x ss (By m)) (go (is_dated (x ∷ ss)) refl)
    where
      go : (b : Bool) → is_dated (x ∷ ss) ≡ b →
          cond b (ahead_in w (add_step (x ∷ ss) (By m)) n (w.civil n)) (walk_in w (add_step (x ∷ ss) (By m)) n n)
          ≡ and_then (cond b (ahead_in w (x ∷ ss) n (w.civil n)) (walk_in w (x ∷ ss) n n)) (move_in w m)
      go true e = ahead_move (x ∷ ss) m (w.civil n) (has_time (x ∷ ss) h e)
      go false e = walk_add w Good lawful (x ∷ ss) (By m) n n g
