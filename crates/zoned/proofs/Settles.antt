-- What running any list leads to, at any instant of any file's zone: what the clocks show, or a refusal of 8 to 13 or of 21 to 23. So of phrases.
use Prim.Native.Nat.{ℕ, ◌+◌, ◌-◌, ◌*◌, ◌<◌, min}
use native.Mathlib.Omega.{arith}
use mathlib.Core.Path.{◌≡◌, refl}
use mathlib.Core.Bool.{Bool, true, false, cond}
use mathlib.Core.List.{List, [], ◌∷◌}
use mathlib.Core.Logic.{◌⊎◌, inl, inr, ⊎_elim}
use lib.Dec.{leb, ltb}
use lib.ListN.{length, take, drop}
use borrow.Author.Tests.{ltb-true}
use Rattle.std.specs.Prelude.{Option, Some, None}
use Rattle.refusals.specs.declared.Reason.{Reason}
use Rattle.refusals.specs.declared.Reason.TheVariants.{InvalidMoment, NoSense, Outside, NoZone, PastLast}
use Rattle.refusals.specs.Table.{number_of}
use Rattle.refusals.specs.Answers.{Answer, given, refusal_at, and_then}
use Rattle.refusals.specs.declared.Refusal.{Refusal}
use Rattle.refusals.proofs.Holds.{Holds, of_given, of_refusal, Bounded, given_holds, refusal_holds, then_holds}
use Rattle.calendar.specs.Moments.{Reach, moment, refused, and_then as reach_then, Outcome, IsMoment}
use Rattle.calendar.proofs.Valid.{test_range}
use Rattle.std.proofs.lemmas.Bool.Decides.{nat_tests}
use Rattle.lexer.specs.Keywords.{words_in}
use Rattle.lexer.specs.declared.reading.Reading.{Reading}
use Rattle.phrase.specs.Read.{read_of}
use Rattle.answer.specs.Answer.{placed}
use Rattle.answer.proofs.Leads.{Leads, leads, refuses}
use Rattle.steps.specs.Running.{act_of, act_in, walk_of, walk_in, ahead_in, is_list, is_dated, run_in}
use Rattle.steps.specs.declared.plan.Start.TheVariants.{Now, Senseless, OnDate, InWeek, FromToday}
use Rattle.steps.specs.declared.plan.Move.TheVariants.{Minutes, Months, Years, BackTo, ForwardTo}
use Rattle.steps.specs.declared.plan.Step.{Step}
use Rattle.steps.specs.declared.plan.Step.TheVariants.{From, By, AtTime}
use Rattle.ready.specs.Ready.{ReadyPhrase}
use Rattle.ready.proofs.ReadyPhrases.{MadeReady, made_ready}
use Rattle.ready.proofs.Settles.{act_leads, walk_leads}
use Rattle.tzif.specs.Zones.{Zone, IsZone}
use Rattle.tzif.specs.File.{checked_of, zone_in, zone_by, zone_of}
use Rattle.tzif.specs.declared.file.Places.{Places}
use Rattle.zones.specs.Civil.{civil_of, last_in, resolve, in_years, second_of_moment}
use Rattle.zones.specs.Instants.{with_millisecond, arrive, fixed_from, fixed_step, clock_of, instant_at, Good, Shown}
use Rattle.zones.specs.declared.instants.Instant.{Instant}
use Rattle.zones.proofs.Resolved.{only_22_23}
use Rattle.zones.proofs.Bounds.{below, fixed_keeps, settle_keeps, good_moment, file_zone}
use Rattle.zoned.specs.InZone.{in_zone, run_at}
use Rattle.zoned.specs.Kinds.{up_to_time}
use Rattle.zoned.specs.Local.{IsLocal, local_at, shown_in, run_in_zone, evaluate_in_zone}
use Rattle.zoned.specs.declared.local.Local.{Local}
use Rattle.zoned.proofs.Acts.{years_good}
use Rattle.zoned.proofs.Ahead.{ahead_split}
use Rattle.zoned.proofs.Calls.{zone_calls_alike}

-- a refusal of low to 13 with a part within the first n bytes, or one of 21 to 23 with an empty part
abbrev pub Stops : ℕ → ℕ → Refusal → Type 0
Stops low n r = Bounded low 13 n r ⊎ Bounded 21 23 0 r

-- its number alone, where the part is empty
abbrev StopsBy : Reason → Type 0
StopsBy k = Stops 8 0 (refusal_at k 0 0)

-- what is reached behind what was reached
then_placed :
    {A B : Type 0} {P : A → Type 0} {S : B → Type 0} {Q : Refusal → Type 0} (o : Reach A) (f : A → Reach B) →
    Holds P Q (placed o) → ((x : A) → P x → Holds S Q (placed (f x))) → Holds S Q (placed (reach_then o f))
then_placed (moment x) f h g = g x (given_holds h refl)
then_placed (refused k) f h g = of_refusal (refusal_holds h refl)

module _ (z : Zone) (v : IsZone z) where
  -- an instant that can be stood at
  abbrev Ends : Reach Instant → Type 0
  Ends r = Holds (Shown z) (Stops 8 0) (placed r)

  at_moment : (x : Instant) → Shown z x → IsMoment (clock_of z x)
  at_moment x h = good_moment z v x h.good h.small

  -- a second with its millisecond
  with_ends :
      (ms : ℕ) (r : Reach ℕ) → ms < 1000 → ((s : ℕ) → r ≡ moment s → Good z s) → ((k : Reason) → r ≡ refused k → StopsBy k) →
      Ends (with_millisecond ms r)
  with_ends ms (moment s) small good stops = of_given (record { good = good s refl; small = small })
  with_ends ms (refused k) small good stops = of_refusal (stops k refl)

  -- a civil moment is settled, or refused by 22 or 23
  settle_ends : {o : Outcome} → Leads IsMoment o → Ends ((in_zone z).settle o)
  settle_ends (leads {t} m) =
      with_ends t.millisecond (resolve z (second_of_moment t)) m.time.millisecond (settle_keeps z v t)
      (λ k e. inr (⊎_elim (λ h. rw h (omega arith)) (λ h. rw h (omega arith)) (only_22_23 z v.ascending (second_of_moment t) k e)))
  settle_ends (refuses {k} e) = let b = test_range (number_of k) 9 13 e in of_refusal {r = refusal_at k 0 0} (inl (omega arith))

  -- a fixed length arrives, or is refused by 12 or 22
  arrive_stops : (s : ℕ) (k : Reason) → arrive z s ≡ refused k → StopsBy k
  arrive_stops s k e = go (ltb s (last_in z)) (in_years (civil_of z s)) e
    where
      go : (known near : Bool) → cond known (cond near (moment s) (refused Outside)) (refused PastLast) ≡ refused k → StopsBy k
      go true true e = cc
      go true false e = let same : Outside ≡ k = cc in rw (← same) (inl (omega arith))
      go false near e = let same : PastLast ≡ k = cc in rw (← same) (inr (omega arith))

  fixed_stops : (back : Bool) (m s : ℕ) (k : Reason) → fixed_from z back m s ≡ refused k → StopsBy k
  fixed_stops false m s k e = arrive_stops (s + 60 * m) k e
  fixed_stops true m s k e = go (leb (60 * m) s) e
    where
      go : (room : Bool) → cond room (arrive z (s - 60 * m)) (refused Outside) ≡ refused k → StopsBy k
      go true e = arrive_stops (s - 60 * m) k e
      go false e = let same : Outside ≡ k = cc in rw (← same) (inl (omega arith))

  fixed_ends : (back : Bool) (m : ℕ) (x : Instant) → Shown z x → Ends (fixed_step z back m x)
  fixed_ends back m x h =
      with_ends x.millisecond (fixed_from z back m x.second) h.small (λ s e. fixed_keeps z v back m x.second s e)
      (fixed_stops back m x.second)

  -- a step on the civil time
  module _ (n : Instant) (w : Shown z n) where
    civil_ends : (s : Step) (x : Instant) → Shown z x → Ends ((in_zone z).settle (act_of s (clock_of z n) (clock_of z x)))
    civil_ends s x h = settle_ends (act_leads s (clock_of z n) (clock_of z x) (at_moment n w) (at_moment x h))

    -- any step
    act_ends : (s : Step) (x : Instant) → Shown z x → Ends (act_in (in_zone z) s n x)
    act_ends (From Now) x h = of_given h
    act_ends (From Senseless) x h = of_refusal {r = refusal_at NoSense 0 0} (inl (omega arith))
    act_ends (From (OnDate d)) x h = civil_ends (From (OnDate d)) x h
    act_ends (From (InWeek s d)) x h = civil_ends (From (InWeek s d)) x h
    act_ends (From (FromToday d)) x h = civil_ends (From (FromToday d)) x h
    act_ends (By (Minutes back m)) x h = fixed_ends back m x h
    act_ends (By (Months back m)) x h = civil_ends (By (Months back m)) x h
    act_ends (By (Years back m)) x h = civil_ends (By (Years back m)) x h
    act_ends (By (BackTo d)) x h = civil_ends (By (BackTo d)) x h
    act_ends (By (ForwardTo d)) x h = civil_ends (By (ForwardTo d)) x h
    act_ends (AtTime t) x h = civil_ends (AtTime t) x h

    -- steps in order
    walk_ends : (ss : List Step) (x : Instant) → Shown z x → Ends (walk_in (in_zone z) ss n x)
    walk_ends [] x h = of_given h
    walk_ends (s ∷ ss) x h = then_placed (act_in (in_zone z) s n x) (walk_in (in_zone z) ss n) (act_ends s x h) (walk_ends ss)

    -- from a date
    ahead_ends : (ss : List Step) → Ends (ahead_in (in_zone z) ss n (clock_of z n))
    ahead_ends ss =
        let first = walk_of (take (up_to_time ss) ss) (clock_of z n) (clock_of z n) in
        let led = walk_leads (take (up_to_time ss) ss) (clock_of z n) (clock_of z n) (at_moment n w) (at_moment n w) in
        rw (ahead_split z ss n (clock_of z n))
        (then_placed (reach_then first (instant_at z)) (walk_in (in_zone z) (drop (up_to_time ss) ss) n) (settle_ends led) (walk_ends (drop (up_to_time ss) ss)))

    -- a list, or 9
    list_ends : (ss : List Step) → Ends (run_in (in_zone z) ss n)
    unfolding run_in
    list_ends ss = go (is_list ss) (is_dated ss)
      where
        go : (formed dated : Bool) → Ends (cond formed (cond dated (ahead_in (in_zone z) ss n (clock_of z n)) (walk_in (in_zone z) ss n n)) (refused NoSense))
        go true true = ahead_ends ss
        go true false = walk_ends ss n w
        go false dated = of_refusal {r = refusal_at NoSense 0 0} (inl (omega arith))

  -- at any instant: 8 and 22 of now
  run_ends : (ss : List Step) (n : Instant) → Ends (run_at z ss n)
  unfolding run_at
  run_ends ss n = go (ltb n.millisecond 1000) (ltb n.second (last_in z)) (in_years (civil_of z n.second)) refl refl refl
    where
      go :
          (small known near : Bool) → ltb n.millisecond 1000 ≡ small → ltb n.second (last_in z) ≡ known → in_years (civil_of z n.second) ≡ near →
          Ends (cond small (cond known (cond near (run_in (in_zone z) ss n) (refused InvalidMoment)) (refused PastLast)) (refused InvalidMoment))
      go true true true e f g =
          list_ends n (record { good = years_good z n.second (ltb-true n.second (last_in z) f) g; small = ltb-true n.millisecond 1000 e }) ss
      go true true false e f g = of_refusal {r = refusal_at InvalidMoment 0 0} (inl (omega arith))
      go true false near e f g = of_refusal {r = refusal_at PastLast 0 0} (inr (omega arith))
      go false known near e f g = of_refusal {r = refusal_at InvalidMoment 0 0} (inl (omega arith))

  -- what the clocks show there
  local_is : (x : Instant) → Shown z x → IsLocal (local_at z x)
  local_is x h = let o = below z v x.second in record { civil = at_moment x h; offset = grind (arith, nat_tests) }

-- with the file, or 21
pub run_in_zone_settled : (ss : List Step) (file : List ℕ) (n : Instant) → Holds IsLocal (Stops 8 0) (run_in_zone ss file n)
unfolding run_in_zone zone_of
run_in_zone_settled ss file n = go (checked_of file) refl
  where
    go : (k : Option Places) → checked_of file ≡ k → Holds IsLocal (Stops 8 0) (and_then (zone_by file k) (λ z. shown_in z (run_at z ss n)))
    go None e = of_refusal {r = refusal_at NoZone 0 0} (inr (omega arith))
    go (Some p) e =
        let z = zone_in file p in
        let v = file_zone file p e in
        then_holds (λ x. given (local_at z x)) (run_ends z v ss n) (λ x h. of_given (local_is z v x h))

-- a phrase in a reading: by what it is made ready as
pub zone_settled :
    (reading : Reading) (s file : List ℕ) (n : Instant) →
    Holds IsLocal (Stops 1 (min (length s) 256)) (and_then (read_of reading (words_in reading) s) (λ x. evaluate_in_zone x.tree file n))
zone_settled reading s file n = rw (← (zone_calls_alike reading s file n)) (go (made_ready reading s))
  where
    lower : {w : Answer Local} → Holds IsLocal (Stops 8 0) w → Holds IsLocal (Stops 1 (min (length s) 256)) w
    lower (of_given p) = of_given p
    lower (of_refusal {r} q) = of_refusal {r = r} (⊎_elim (λ b. inl (omega arith)) inr q)

    go : {w : ReadyPhrase} → Holds MadeReady (Bounded 1 7 (min (length s) 256)) w →
        Holds IsLocal (Stops 1 (min (length s) 256)) (and_then w (λ ss. run_in_zone ss file n))
    go (of_given {x} made) = lower (run_in_zone_settled x file n)
    go (of_refusal {r} b) = of_refusal {r = r} (inl (omega arith))
