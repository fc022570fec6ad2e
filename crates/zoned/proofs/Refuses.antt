-- Where one world refuses, the other refuses alike, but for refusals that only the first has. So a zone of one offset refuses as the fixed offset.
use Prim.Native.Nat.{ℕ, ◌+◌, ◌-◌, ◌*◌, ◌/◌, ◌%◌, ◌≤◌, ◌<◌}
use native.Mathlib.Omega.{arith}
use mathlib.Core.Path.{◌≡◌, refl, ap, sym, ◌∙◌}
use mathlib.Core.Bool.{Bool, true, false}
use mathlib.Core.List.{[], ◌∷◌}
use mathlib.Core.Logic.{◌⊎◌, inl, inr, ⊎_elim}
use borrow.Author.Tests.{lt-leb}
use Rattle.std.proofs.lemmas.Bool.Decides.{nat_tests}
use Rattle.digits.proofs.Order.{le-or_lt}
use Rattle.refusals.specs.declared.Reason.{Reason}
use Rattle.refusals.specs.declared.Reason.TheVariants.{Outside, PastLast, NoInstant}
use Rattle.calendar.specs.Moments.{Reach, moment, refused, and_then, Outcome, minutes_step, months_step, years_step, with_time, first_moment, moment_at}
use Rattle.calendar.specs.declared.moments.Moment.{Moment}
use Rattle.calendar.proofs.Places.{minute_at}
use Rattle.dates.specs.Durations.{Duration, part, concat}
use Rattle.dates.specs.declared.duration.Part.{Part}
use Rattle.dates.specs.declared.duration.Part.TheVariants.{Article, Specific}
use Rattle.dates.specs.declared.units.Unit.{Unit as Measure}
use Rattle.dates.specs.declared.units.Unit.TheVariants.{Day, Week, Hour, Minute, Month, Year}
use Rattle.phrase.specs.Tree.{DateTime, date_time, time_date, duration_after, duration_before, now}
use Rattle.evaluation.specs.Worlds.{World, offset}
use Rattle.evaluation.specs.Steps.{unit_in, part_in, duration_in}
use Rattle.evaluation.specs.Times.{time_at}
use Rattle.evaluation.specs.Evaluate.{date_expr_at, evaluate_in, evaluate}
use Rattle.tzif.specs.Zones.{Row, Zone, year_one, IsZone}
use Rattle.zones.specs.Civil.{shift_at, civil_of, last_in, civil_one, resolve, moment_of_second, second_of_moment}
use Rattle.zones.specs.Instants.{with_millisecond, arrive, fixed_from, clock_of, Good, Shown}
use Rattle.zones.specs.declared.instants.Instant.{Instant}
use Rattle.zoned.specs.InZone.{in_zone}
use Rattle.zones.proofs.Resolved.{only_22_23}
use Rattle.zones.proofs.Bounds.{arrive_past, arrive_in, arrive_low, back_in, back_out}
use Rattle.zoned.proofs.Joins.{border}
use Rattle.zoned.proofs.Follows.{Follows, part-led, tree-led}
use Rattle.zoned.proofs.OneOffset.{single, one_shift, follows}

-- a refusal on the way, or behind what was reached
then-refuses :
    {A B : Type 0} (P : Type 0) (o : Reach A) (f : A → Reach B) (k : Reason) → and_then o f ≡ refused k → (o ≡ refused k → P) →
    ((x : A) → o ≡ moment x → f x ≡ refused k → P) → P
then-refuses P (moment x) f k e first rest = rest x refl e
then-refuses P (refused j) f k e first rest = let same : j ≡ k = cc in first (ap refused same)

module _ {S R : Type 0} (w : World S) (v : World R) (Good : S → Type 0) (f : S → R) (same : Follows w v Good f) (Own : Reason → Type 0) where
  -- a refusal of w's own, or v's too
  abbrev Alike : Reach R → Reason → Type 0
  Alike r k = Own k ⊎ (r ≡ refused k)

  -- what it needs of settling and of fixed lengths
  pub record Refuses : Type 0 where
    pub settle : (o : Outcome) (k : Reason) → w.settle o ≡ refused k → Alike (v.settle o) k
    pub fixed : (back : Bool) (m : ℕ) (k : Reason) (x : S) → Good x → w.fixed back m x ≡ refused k → Alike (v.fixed back m (f x)) k

  module _ (refuses : Refuses) where
    civil-not : (act : Moment → Outcome) (x : S) (k : Reason) → Good x → w.settle (act (w.civil x)) ≡ refused k → Alike (v.settle (act (v.civil (f x)))) k
    civil-not act x k g e = rw (same.civil x g) (refuses.settle (act (w.civil x)) k e)

    unit-not : (back : Bool) (m : ℕ) (u : Measure) (x : S) (k : Reason) → Good x → unit_in w back m u x ≡ refused k → Alike (unit_in v back m u (f x)) k
    unit-not back m Day x k g e = refuses.fixed back (1440 * m) k x g e
    unit-not back m Week x k g e = refuses.fixed back (10080 * m) k x g e
    unit-not back m Hour x k g e = refuses.fixed back (60 * m) k x g e
    unit-not back m Minute x k g e = refuses.fixed back m k x g e
    unit-not back m Month x k g e = civil-not (months_step back m) x k g e
    unit-not back m Year x k g e = civil-not (years_step back m) x k g e

    part-not : (back : Bool) (p : Part) (x : S) (k : Reason) → Good x → part_in w back p x ≡ refused k → Alike (part_in v back p (f x)) k
    part-not back (Article u) x k g e = unit-not back 1 u x k g e
    part-not back (Specific u m) x k g e = unit-not back m u x k g e

    -- what follows
    then-not : (q : Reach R) (b : R → Reach R) (k : Reason) → Alike q k → Alike (and_then q b) k
    then-not q b k a = ⊎_elim inl (λ e. inr (ap (λ (p : Reach R). and_then p b) e)) a

    on-not : (q : Reach R) (b : R → Reach R) (y : S) (k : Reason) → q ≡ moment (f y) → Alike (b (f y)) k → Alike (and_then q b) k
    on-not q b y k e a = ⊎_elim inl (λ h. inr (ap (λ (p : Reach R). and_then p b) e ∙ h)) a

    duration-not : (back : Bool) (d : Duration) (x : S) (k : Reason) → Good x → duration_in w back d x ≡ refused k → Alike (duration_in v back d (f x)) k
    duration-not back (part p) x k g e = part-not back p x k g e
    duration-not back (concat p d) x k g e =
        then-refuses (Alike (duration_in v back (concat p d) (f x)) k) (part_in w back p x) (duration_in w back d) k e
        (λ h. then-not (part_in v back p (f x)) (duration_in v back d) k (part-not back p x k g h))
        (λ y h m.
        let l = part-led w v Good f same back p x y g h in
        on-not (part_in v back p (f x)) (duration_in v back d) y k l.is (duration-not back d y k l.good m))

    outer-not :
        (back : Bool) (dur : Duration) (x : DateTime) (n : S) (k : Reason) → Good n → (evaluate_in w x n ≡ refused k → Alike (evaluate_in v x (f n)) k) →
        and_then (evaluate_in w x n) (duration_in w back dur) ≡ refused k → Alike (and_then (evaluate_in v x (f n)) (duration_in v back dur)) k
    outer-not back dur x n k g inner e =
        then-refuses (Alike (and_then (evaluate_in v x (f n)) (duration_in v back dur)) k) (evaluate_in w x n) (duration_in w back dur) k e
        (λ h. then-not (evaluate_in v x (f n)) (duration_in v back dur) k (inner h))
        (λ y h m.
        let l = tree-led w v Good f same x n y g h in
        on-not (evaluate_in v x (f n)) (duration_in v back dur) y k l.is (duration-not back dur y k l.good m))

    -- every reading
    pub tree-refuses : (x : DateTime) (n : S) (k : Reason) → Good n → evaluate_in w x n ≡ refused k → Alike (evaluate_in v x (f n)) k
    unfolding evaluate_in
    tree-refuses now n k g e = cc
    tree-refuses (date_time e t) n k g h = civil-not (λ m. and_then (date_expr_at e m) (time_at t m)) n k g h
    tree-refuses (time_date t e) n k g h = civil-not (λ m. and_then (date_expr_at e m) (time_at t m)) n k g h
    tree-refuses (duration_after dur x) n k g e = outer-not false dur x n k g (tree-refuses x n k g) e
    tree-refuses (duration_before dur x) n k g e = outer-not true dur x n k g (tree-refuses x n k g) e

-- more minutes than have passed
earlier_out : (n k ms : ℕ) → n < 60 * k → minutes_step true k (moment_at n ms) ≡ refused Outside
unfolding minutes_step
earlier_out n k ms h = rw (minute_at (n / 60) (with_time 0 0 (n % 60) ms first_moment), lt-leb k (n / 60) (omega arith))

-- year 1 is far behind the first instant
far : 183600 ≤ year_one
unfolding year_one
far = omega arith

module _ (o : ℕ) (r : Row) (v : IsZone (single o r)) where
  abbrev z : Zone
  z = single o r

  -- 22 and 23, which a fixed offset does not have
  abbrev ByZone : Reason → Type 0
  ByZone k = (k ≡ PastLast) ⊎ (k ≡ NoInstant)

  arrive-not : (x : ℕ) (k : Reason) → civil_one ≤ civil_of z x → arrive z x ≡ refused k → ByZone k
  arrive-not x k l e = let past = arrive_past z v x in let in_years_lem = arrive_in z v x in grind (arith, nat_tests)

  -- back from a second, where the calendar is left too
  module _ (m : ℕ) (k : Reason) (x ms : ℕ) (h : Good z x) (e : fixed_from z true m x ≡ refused k) where
    abbrev Twelve : Type 0
    Twelve = ByZone k ⊎ (minutes_step true m (moment_of_second (civil_of z x) ms) ≡ refused k)

    here_shift : shift_at o (r ∷ []) x ≡ o
    here_shift = one_shift o r x h.known

    twelve : civil_of z x - civil_one < 60 * m → Outside ≡ k → Twelve
    twelve l q = inr (earlier_out (civil_of z x - civil_one) m ms l ∙ ap refused q)

    out : x < 60 * m → Twelve
    out l = let f = sym (back_out z v m x l) ∙ e in twelve (omega (arith, far, v.first, here_shift)) cc

    within : 60 * m ≤ x → Twelve
    within l = ⊎_elim in_years_lem under (le-or_lt civil_one (civil_of z (x - 60 * m)))
      where
        in_years_lem : civil_one ≤ civil_of z (x - 60 * m) → Twelve
        in_years_lem n = inl (arrive-not (x - 60 * m) k n (sym (back_in z v m x l) ∙ e))

        under : civil_of z (x - 60 * m) < civil_one → Twelve
        under n =
            let there : x - 60 * m < last_in z = omega (arith, h.known) in
            let f = sym (arrive_low z v (x - 60 * m) there n) ∙ sym (back_in z v m x l) ∙ e in
            let shift = one_shift o r (x - 60 * m) there in
            twelve (omega (arith, here_shift, shift, h.low)) cc

    back-not : Twelve
    back-not = ⊎_elim within out (le-or_lt (60 * m) x)

  fixed-not :
      (back : Bool) (m : ℕ) (k : Reason) (x ms : ℕ) → Good z x → fixed_from z back m x ≡ refused k →
      ByZone k ⊎ (minutes_step back m (moment_of_second (civil_of z x) ms) ≡ refused k)
  fixed-not true m k x ms h e = back-not m k x ms h e
  fixed-not false m k x ms h e = inl (arrive-not (x + 60 * m) k (border z v x (x + 60 * m) (omega arith) h.low) e)

  -- a millisecond beside a second refuses nothing
  with-refuses : (ms : ℕ) (k : Reason) (q : Reach ℕ) → with_millisecond ms q ≡ refused k → q ≡ refused k
  with-refuses ms k (moment s) e = cc
  with-refuses ms k (refused j) e = cc

  settle-not : (a : Outcome) (k : Reason) → (in_zone z).settle a ≡ refused k → ByZone k ⊎ (a ≡ refused k)
  settle-not (moment t) k e = inl (only_22_23 z v.ascending (second_of_moment t) k (with-refuses t.millisecond k (resolve z (second_of_moment t)) e))
  settle-not (refused j) k e = let same : j ≡ k = cc in inr (ap refused same)

  -- a zone of one offset refuses as the fixed offset, or by 22 or 23
  pub one-offset-refuses : (x : DateTime) (n : Instant) (k : Reason) → Shown z n → evaluate_in (in_zone z) x n ≡ refused k → ByZone k ⊎ (evaluate x (clock_of z n) ≡ refused k)
  one-offset-refuses x n k g e =
      tree-refuses (in_zone z) offset (Shown z) (clock_of z) (follows o r v) ByZone
      (record {
        settle = settle-not;
        fixed = λ back m j y h q. fixed-not back m j y.second y.millisecond h.good (with-refuses y.millisecond j (fixed_from z back m y.second) q);
      }) x n k g e
