-- By the bounds of a file's zone: before the last transition no civil time passes year 9999, and what is reached can be stood at.
use Prim.Native.Nat.{ℕ, ◌+◌, ◌-◌, ◌*◌, ◌≤◌, ◌<◌}
use native.Mathlib.Omega.{arith}
use mathlib.Core.Path.{◌≡◌, refl, ap, subst, ◌∙◌}
use mathlib.Core.Bool.{Bool, true, false}
use mathlib.Core.List.{List, [], ◌∷◌}
use Rattle.std.proofs.lemmas.Bool.Decides.{nat_tests}
use Rattle.refusals.specs.declared.Reason.{Reason}
use Rattle.refusals.specs.declared.Reason.TheVariants.{Outside, PastLast}
use Rattle.calendar.specs.Moments.{Reach, moment, refused, and_then, IsMoment, seconds, second_number}
use Rattle.calendar.specs.declared.moments.Moment.{Moment}
use Rattle.tzif.specs.Zones.{Row, Zone, year_one, AllBounded, IsZone}
use Rattle.tzif.specs.File.{IsChecked, zone_in}
use Rattle.tzif.specs.declared.file.Places.{Places}
use Rattle.tzif.specs.Read.{zone_read}
use Rattle.tzif.specs.declared.zone.Zone.{Zone as Checked}
use Rattle.tzif.proofs.Checked.{Known, known, known_zone}
use Rattle.zones.specs.Civil.{shift_at, last_of, civil_of, last_in, resolve, civil_one, in_years, moment_of_second, second_of_moment}
use Rattle.zones.specs.Instants.{instant_by, with_millisecond, arrive, fixed_from, fixed_step, clock_of, instant_at, Good, Shown, Kept}
use Rattle.zones.specs.declared.instants.Instant.{Instant}
use Rattle.zones.proofs.Moments.{civil_moment, moment_again}
use Rattle.zones.proofs.Resolved.{resolve_earliest, civil_resolve}
use Rattle.zones.proofs.Pieces.{last_is}

-- what was reached at the end of a way was reached from somewhere on the way
pub through :
    {A B : Type 0} (P : B → Type 0) (o : Reach A) (f : A → Reach B) (y : B) → and_then o f ≡ moment y →
    ((x : A) → o ≡ moment x → f x ≡ moment y → P y) → P y
through P (moment x) f y e go = go x refl e
through P (refused k) f y e go = cc

-- every offset is below the bound
shift-below : (o : ℕ) (rs : List Row) → o < 183600 → AllBounded rs → (s : ℕ) → shift_at o rs s < 183600
shift-below o [] h b s = h
shift-below o (r ∷ rs) h b s = let rest = shift-below r.shift rs b.0.shift b.1 s in grind (arith, nat_tests)

-- the last transition is before year 9999
last_below : (from : ℕ) (rs : List Row) → from < year_one + 315506361600 → AllBounded rs → last_of from rs < year_one + 315506361600
last_below from [] h b = h
last_below from (r ∷ rs) h b = last_below r.at rs b.0.high b.1

module _ (z : Zone) (v : IsZone z) where
  pub below : (s : ℕ) → shift_at z.first z.rows s < 183600
  below s = shift-below z.first z.rows v.first v.bounded s

  -- before the last transition no civil time passes year 9999
  pub high : (s : ℕ) → s < last_in z → civil_of z s < civil_one + seconds
  high s h = omega (arith, below s, last_below 0 z.rows (omega arith) v.bounded)

  -- where a fixed length arrives
  pub arrive_past : (s : ℕ) → last_in z ≤ s → arrive z s ≡ refused PastLast
  arrive_past s h = grind (arith, nat_tests)

  pub arrive_in : (s : ℕ) → s < last_in z → civil_one ≤ civil_of z s → arrive z s ≡ moment s
  arrive_in s h l = let below = high s h in grind (arith, nat_tests)

  pub arrive_low : (s : ℕ) → s < last_in z → civil_of z s < civil_one → arrive z s ≡ refused Outside
  arrive_low s h l = grind (arith, nat_tests)

  pub arrive_good : (s y : ℕ) → arrive z s ≡ moment y → Good z y
  arrive_good s y e = record { known = grind (arith, nat_tests); low = grind (arith, nat_tests) }

  pub back_out : (k s : ℕ) → s < 60 * k → fixed_from z true k s ≡ refused Outside
  back_out k s h = grind (arith, nat_tests)

  pub back_in : (k s : ℕ) → 60 * k ≤ s → fixed_from z true k s ≡ arrive z (s - 60 * k)
  back_in k s h = grind (arith, nat_tests)

  -- a place that a fixed length leads to is good
  pub fixed_keeps : (back : Bool) (k x y : ℕ) → fixed_from z back k x ≡ moment y → Good z y
  fixed_keeps false k x y e = arrive_good (x + 60 * k) y e
  fixed_keeps true k x y e = let good = arrive_good (x - 60 * k) y in grind (arith, nat_tests)

  -- a second that a civil moment settles at is good
  pub settle_keeps : (t : Moment) (s : ℕ) → resolve z (second_of_moment t) ≡ moment s → Good z s
  settle_keeps t s e =
      let found = resolve_earliest z v.ascending (second_of_moment t) s e in
      record { known = found.known; low = rw found.civil (at_least civil_one (second_number t)) }
    where
      at_least : (m n : ℕ) → m ≤ m + n
      at_least m n = omega arith

  -- with its millisecond
  pub with_good : (ms : ℕ) (r : Reach ℕ) (x : Instant) → with_millisecond ms r ≡ moment x → ((s : ℕ) → r ≡ moment s → Good z s) → Good z x.second
  with_good ms r x e good =
      through (λ (x : Instant). Good z x.second) r (λ s. moment (instant_by s ms)) x e
      (λ s h k. let same : instant_by s ms ≡ x = cc in subst (λ (x : Instant). Good z x.second) same (good s h))

  -- the clocks show the civil moment that was settled
  pub settle_civil : (t : Moment) (x : Instant) → IsMoment t → instant_at z t ≡ moment x → clock_of z x ≡ t
  settle_civil t x m e =
      through (λ (x : Instant). clock_of z x ≡ t) (resolve z (second_of_moment t)) (λ s. moment (instant_by s t.millisecond)) x e
      (λ s h k.
      let same : x ≡ instant_by s t.millisecond = cc in
      ap (clock_of z) same ∙ ap (λ (c : ℕ). moment_of_second c t.millisecond) (civil_resolve z v.ascending (second_of_moment t) s h) ∙ moment_again t m)

  -- every second that a run may stand at has its civil time in years 1 to 9999
  pub good_years : (s : ℕ) → Good z s → in_years (civil_of z s) ≡ true
  good_years s g = let below = high s g.known in grind (arith, nat_tests)

  -- and a moment there
  pub good_moment : (x : Instant) → Good z x.second → x.millisecond < 1000 → IsMoment (clock_of z x)
  good_moment x g small = civil_moment (civil_of z x.second) x.millisecond (good_years x.second g) small

  -- with a millisecond
  with_kept : (ms : ℕ) (r : Reach ℕ) → ms < 1000 → ((s : ℕ) → r ≡ moment s → Good z s) → Kept z (with_millisecond ms r)
  with_kept ms r small good = record {
    kept = λ x e.
        through (Shown z) r (λ s. moment (instant_by s ms)) x e
        (λ s h k. let same : instant_by s ms ≡ x = cc in subst (Shown z) same (record { good = good s h; small = small }));
  }

  -- what a fixed length leads to can be stood at
  pub fixed_kept : (back : Bool) (k : ℕ) (x : Instant) → Shown z x → Kept z (fixed_step z back k x)
  fixed_kept back k x g = with_kept x.millisecond (fixed_from z back k x.second) g.small (λ s e. fixed_keeps back k x.second s e)

  -- and the instant of a moment of the calendar
  pub instant_kept : (t : Moment) → IsMoment t → Kept z (instant_at z t)
  instant_kept t m = with_kept t.millisecond (resolve z (second_of_moment t)) m.time.millisecond (settle_keeps t)

-- a refusal
pub refused_kept : (z : Zone) (k : Reason) → Kept z (refused k)
refused_kept z k = record { kept = λ x e. cc }

-- the zone of a checked file
pub file_zone : (l : List ℕ) (p : Places) → IsChecked l p → IsZone (zone_in l p)
file_zone l p e = known_zone l p (known l p e)

module _ (z : Checked) where
  pub known_of : Known z.file.now z.places
  known_of = known z.file.now z.places z.checked

  pub zone_bounds : IsZone (zone_read z)
  zone_bounds = file_zone z.file.now z.places z.checked

  -- its last transition stands among its places
  pub last_place : z.places.last ≡ last_in (zone_read z)
  last_place = last_is z.file.now z.places known_of
