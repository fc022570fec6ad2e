-- Two worlds: where one answers with a moment, the other answers with its image.
use Prim.Native.Nat.{ℕ, ◌*◌}
use mathlib.Core.Path.{◌≡◌, refl, ap, subst, ◌∙◌}
use mathlib.Core.Bool.{Bool, true, false}
use Rattle.calendar.specs.Moments.{Reach, moment, and_then, Outcome, IsMoment, months_step, years_step}
use Rattle.calendar.specs.declared.moments.Moment.{Moment}
use Rattle.dates.specs.Durations.{Duration, part, concat}
use Rattle.dates.specs.declared.duration.Part.{Part}
use Rattle.dates.specs.declared.duration.Part.TheVariants.{Article, Specific}
use Rattle.dates.specs.declared.time.Time.{Time}
use Rattle.dates.specs.declared.units.Unit.{Unit as Measure}
use Rattle.dates.specs.declared.units.Unit.TheVariants.{Day, Week, Hour, Minute, Month, Year}
use Rattle.expressions.specs.Tree.{DateExpr}
use Rattle.phrase.specs.Tree.{DateTime, date_time, time_date, duration_after, duration_before, now}
use Rattle.evaluation.specs.Worlds.{World}
use Rattle.evaluation.specs.Steps.{unit_in, part_in, duration_in}
use Rattle.evaluation.specs.Times.{time_at}
use Rattle.evaluation.specs.Evaluate.{date_expr_at, evaluate_in}
use Rattle.answer.proofs.Leads.{Leads, months_lead, years_lead, kept_moment, valid_leads}
use Rattle.zones.proofs.Bounds.{through}

module _ {S R : Type 0} (w : World S) (v : World R) (Good : S → Type 0) (f : S → R) where
  -- an answer of v that is the image of a good moment
  pub record Led (r : Reach R) (y : S) : Type 0 where
    pub is : r ≡ moment (f y)
    pub good : Good y

  -- v does at the image of a good moment what w does at the moment
  pub record Follows : Type 0 where
    pub civil : (x : S) → Good x → v.civil (f x) ≡ w.civil x
    pub moments : (x : S) → Good x → IsMoment (w.civil x)
    pub settle : (o : Outcome) (y : S) → Leads IsMoment o → w.settle o ≡ moment y → Led (v.settle o) y
    pub fixed : (back : Bool) (k : ℕ) (x y : S) → Good x → w.fixed back k x ≡ moment y → Led (v.fixed back k (f x)) y

  module _ (same : Follows) where
    -- a step on the civil moment
    civil-led :
        (act : Moment → Outcome) → ((t : Moment) → IsMoment t → Leads IsMoment (act t)) → (x y : S) → Good x → w.settle (act (w.civil x)) ≡ moment y →
        Led (v.settle (act (v.civil (f x)))) y
    civil-led act h x y g e = rw (same.civil x g) (same.settle (act (w.civil x)) y (h (w.civil x) (same.moments x g)) e)

    unit-led : (back : Bool) (k : ℕ) (u : Measure) (x y : S) → Good x → unit_in w back k u x ≡ moment y → Led (unit_in v back k u (f x)) y
    unit-led back k Day x y g e = same.fixed back (1440 * k) x y g e
    unit-led back k Week x y g e = same.fixed back (10080 * k) x y g e
    unit-led back k Hour x y g e = same.fixed back (60 * k) x y g e
    unit-led back k Minute x y g e = same.fixed back k x y g e
    unit-led back k Month x y g e = civil-led (months_step back k) (λ t h. months_lead kept_moment back k t h) x y g e
    unit-led back k Year x y g e = civil-led (years_step back k) (λ t h. years_lead kept_moment back k t h) x y g e

    pub part-led : (back : Bool) (p : Part) (x y : S) → Good x → part_in w back p x ≡ moment y → Led (part_in v back p (f x)) y
    part-led back (Article u) x y g e = unit-led back 1 u x y g e
    part-led back (Specific u k) x y g e = unit-led back k u x y g e

    -- what follows an answer
    then-led :
        (o : Reach S) (a : S → Reach S) (q : Reach R) (b : R → Reach R) (y : S) → ((x : S) → o ≡ moment x → Led q x) →
        ((x : S) → Good x → a x ≡ moment y → Led (b (f x)) y) → and_then o a ≡ moment y → Led (and_then q b) y
    then-led o a q b y first rest e =
        through (Led (and_then q b)) o a y e
        (λ x h k.
        let l = first x h in
        let m = rest x l.good k in
        record { is = ap (λ (p : Reach R). and_then p b) l.is ∙ m.is; good = m.good })

    duration-led : (back : Bool) (d : Duration) (x y : S) → Good x → duration_in w back d x ≡ moment y → Led (duration_in v back d (f x)) y
    duration-led back (part p) x y g e = part-led back p x y g e
    duration-led back (concat p d) x y g e =
        then-led (part_in w back p x) (duration_in w back d) (part_in v back p (f x)) (duration_in v back d) y
        (λ u h. part-led back p x u g h) (λ u h k. duration-led back d u y h k) e

    -- a date expression and a time of day
    abbrev stated : DateExpr → Time → Moment → Outcome
    stated e t m = and_then (date_expr_at e m) (time_at t m)

    stated_leads : (e : DateExpr) (t : Time) (m : Moment) → IsMoment m → Leads IsMoment (stated e t m)
    unfolding evaluate_in
    stated_leads e t m h = valid_leads (date_time e t) m h

    pub tree-led : (x : DateTime) (n y : S) → Good n → evaluate_in w x n ≡ moment y → Led (evaluate_in v x (f n)) y
    unfolding evaluate_in
    tree-led now n y g e = let same-one : n ≡ y = cc in subst (Led (moment (f n))) same-one (record { is = refl; good = g })
    tree-led (date_time e t) n y g h = civil-led (stated e t) (stated_leads e t) n y g h
    tree-led (time_date t e) n y g h = civil-led (stated e t) (stated_leads e t) n y g h
    tree-led (duration_after dur x) n y g e =
        then-led (evaluate_in w x n) (duration_in w false dur) (evaluate_in v x (f n)) (duration_in v false dur) y
        (λ u h. tree-led x n u g h) (λ u h k. duration-led false dur u y h k) e
    tree-led (duration_before dur x) n y g e =
        then-led (evaluate_in w x n) (duration_in w true dur) (evaluate_in v x (f n)) (duration_in v true dur) y
        (λ u h. tree-led x n u g h) (λ u h k. duration-led true dur u y h k) e

    -- every reading
    pub tree-follows : (x : DateTime) (n y : S) → Good n → evaluate_in w x n ≡ moment y → evaluate_in v x (f n) ≡ moment (f y)
    tree-follows x n y g e = (tree-led x n y g e).is
