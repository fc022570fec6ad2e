-- What comes next is the full list's first entry at or after the asked moment, and 20 exactly if there is none.
use mathlib.Core.Path.{◌≡◌, refl, ap}
use mathlib.Core.Bool.{Bool, true, false, cond}
use mathlib.Core.List.{List, ◌∷◌, ◌++◌, []}
use lib.Dec.{leb}
use lib.ListN.{length, take}
use lib.Seq.{take_all}
use Prim.Native.Nat.{ℕ, ◌*◌, ◌/◌, ◌≤◌, ◌<◌}
use native.Mathlib.Omega.{arith}
use borrow.Author.Tests.{leb-true, leb-false, lt-leb}
use Rattle.refusals.specs.declared.Reason.TheVariants.{NoStart, NoNext}
use Rattle.refusals.specs.Answers.{Answer, given, refused, refuse, and_then, number_in}
use Rattle.refusals.proofs.Holds.{Given}
use Rattle.calendar.specs.Moments.{at_day, instant_of, NotAfter}
use Rattle.calendar.specs.declared.moments.Moment.{Moment}
use Rattle.rules.specs.declared.Rule.{Rule}
use Rattle.repeats.specs.Occurrences.{occurrences, start_fits, days_of}
use Rattle.repeats.specs.Listing.{list_of}
use Rattle.repeats.proofs.Held.{Each}
use Rattle.coming.specs.Next.{first_after, next_of}

-- the moment of day n is before the asked one
abbrev pub Early : Moment → Moment → ℕ → Type 0
Early t asked n = instant_of (at_day n t) < instant_of asked

-- u is the first of the days' moments that is at or after the asked one
pub record Entry (t asked u : Moment) (l : List ℕ) : Type 0 where
  pub earlier : List ℕ
  pub day : ℕ
  pub later : List ℕ
  pub whole : l ≡ earlier ++ (day ∷ later)
  pub is : u ≡ at_day day t
  pub reached : NotAfter asked u
  pub early : Each (Early t asked) earlier

-- what is answered is that entry
pub first_entry : (t asked u : Moment) (l : List ℕ) → first_after t asked l ≡ given u → Entry t asked u l
unfolding first_after
first_entry t asked u [] e = cc
first_entry t asked u (n ∷ l) e = go (λ q. first_entry t asked u l q) (leb (instant_of asked) (instant_of (at_day n t))) refl e
  where
    more : Early t asked n → Entry t asked u l → Entry t asked u (n ∷ l)
    more p i = record {
      earlier = n ∷ i.earlier;
      day = i.day;
      later = i.later;
      whole = rw i.whole;
      is = i.is;
      reached = i.reached;
      early = (p, i.early);
    }

    go : (first_after t asked l ≡ given u → Entry t asked u l) → (c : Bool) → leb (instant_of asked) (instant_of (at_day n t)) ≡ c →
        cond c (given (at_day n t)) (first_after t asked l) ≡ given u → Entry t asked u (n ∷ l)
    go rest true p q =
        let same : u ≡ at_day n t = cc in
        record { earlier = []; day = n; later = l; whole = refl; is = same; reached = rw same (leb-true _ _ p); early = tt }
    go rest false p q = more (leb-false _ _ p) (rest q)

-- where 20 is answered each of them is early
pub none_early : (t asked : Moment) (l : List ℕ) → first_after t asked l ≡ refuse NoNext 0 0 → Each (Early t asked) l
unfolding first_after
none_early t asked [] e = tt
none_early t asked (n ∷ l) e = go (λ q. none_early t asked l q) (leb (instant_of asked) (instant_of (at_day n t))) refl e
  where
    go : (first_after t asked l ≡ refuse NoNext 0 0 → Each (Early t asked) l) → (c : Bool) → leb (instant_of asked) (instant_of (at_day n t)) ≡ c →
        cond c (given (at_day n t)) (first_after t asked l) ≡ refuse NoNext 0 0 → Each (Early t asked) (n ∷ l)
    go rest true p q = cc
    go rest false p q = (leb-false _ _ p, rest q)

-- and the other way round
pub early_none : (t asked : Moment) (l : List ℕ) → Each (Early t asked) l → first_after t asked l ≡ refuse NoNext 0 0
unfolding first_after
early_none t asked [] h = refl
early_none t asked (n ∷ l) h = rw (lt-leb (instant_of asked) (instant_of (at_day n t)) h.0) (early_none t asked l h.1)

-- E12: the answer is the full list's first entry at or after the asked moment
pub next_entry : (r : Rule) (t asked u : Moment) → next_of r t asked ≡ given u → Given (Entry t asked u) (days_of r t)
unfolding next_of
next_entry r t asked u e = go (days_of r t) refl e
  where
    go : (w : Answer (List ℕ)) → days_of r t ≡ w → and_then w (λ l. first_after t asked l) ≡ given u → Given (Entry t asked u) (days_of r t)
    go (given l) p q = record { value = l; is = p; holds = first_entry t asked u l q }
    go (refused z) p q = cc

-- it is 20 only if the list is there and has none
pub next_none : (r : Rule) (t asked : Moment) → next_of r t asked ≡ refuse NoNext 0 0 → Given (Each (Early t asked)) (days_of r t)
unfolding next_of days_of
next_none r t asked e = go (start_fits r t) (occurrences r t) e
  where
    go : (c : Bool) (l : List ℕ) → and_then (cond c (given l) (refuse NoStart 0 0)) (λ l. first_after t asked l) ≡ refuse NoNext 0 0 →
        Given (Each (Early t asked)) (cond c (given l) (refuse NoStart 0 0))
    go true l q = record { value = l; is = refl; holds = none_early t asked l q }
    go false l q = absurd (let z : ◌≡◌ {A = ℕ} 19 20 = ap number_in q in omega arith)

-- and if so
pub none_next : (r : Rule) (t asked : Moment) (l : List ℕ) → days_of r t ≡ given l → Each (Early t asked) l → next_of r t asked ≡ refuse NoNext 0 0
unfolding next_of
none_next r t asked l e h = rw e (early_none t asked l h)

-- with room for all the listing has the full list, and the answer can be read off it
pub next_listed : (r : Rule) (t asked : Moment) (l : List ℕ) (size : ℕ) → days_of r t ≡ given l → 7 * length l ≤ size →
    (list_of r t size ≡ given l) × (next_of r t asked ≡ and_then (list_of r t size) (λ l. first_after t asked l))
unfolding next_of
next_listed r t asked l size e h =
    let whole : take (size / 7) l ≡ l = take_all (size / 7) l (omega arith) in
    (rw (e, whole), rw (e, whole))
