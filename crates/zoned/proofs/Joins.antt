-- In a zone whose file was taken, fixed lengths join with the same refusal; so the zone is a lawful world.
use Prim.Native.Nat.{ℕ, ◌+◌, ◌-◌, ◌*◌, ◌≤◌, ◌<◌}
use native.Mathlib.Omega.{arith}
use mathlib.Core.Path.{◌≡◌, refl, ap, sym, ◌∙◌}
use mathlib.Core.Bool.{Bool, true, false}
use mathlib.Core.List.{List, [], ◌∷◌}
use mathlib.Core.Logic.{⊎_elim}
use Rattle.std.proofs.lemmas.Bool.Decides.{nat_tests}
use Rattle.refusals.specs.declared.Reason.TheVariants.{Outside}
use Rattle.calendar.specs.Moments.{moment, refused, and_then}
use Rattle.calendar.proofs.Outcomes.{then_assoc}
use Rattle.evaluation.specs.Worlds.{Lawful}
use Rattle.tzif.specs.Zones.{Row, Zone, year_one, Bounded, AllBounded, IsZone}
use Rattle.zones.specs.Civil.{shift_at, civil_of, last_in, resolve, civil_one, second_of_moment}
use Rattle.zones.specs.Instants.{instant_by, with_millisecond, fixed_from, instant_at, Good}
use Rattle.zones.specs.declared.instants.Instant.{Instant}
use Rattle.zoned.specs.InZone.{in_zone}
use Rattle.zones.proofs.Bounds.{through, below, high, fixed_keeps, settle_keeps, with_good}

-- no transition lies in UTC years 0 and 1
not_there : (r : Row) → Bounded r → (s x : ℕ) → year_one ≤ s + 31622400 → x < year_one + 31536000 → s < r.at → r.at ≤ x → ⊥
not_there r b s x low high h k = ⊎_elim (λ c. omega arith) (λ c. omega arith) b.clear

one-row : (o : ℕ) (r : Row) (rs : List Row) → Bounded r → (s x : ℕ) → s ≤ x → year_one ≤ s + 31622400 → x < year_one + 31536000
    → shift_at r.shift rs s ≡ shift_at r.shift rs x → shift_at o (r ∷ rs) s ≡ shift_at o (r ∷ rs) x
one-row o r rs b s x l low high e =
    let apart : s < r.at → r.at ≤ x → ⊥ = not_there r b s x low high in
    grind (arith, nat_tests)

-- so the offset is one number there
shift_same : (o : ℕ) (rs : List Row) → AllBounded rs → (s x : ℕ) → s ≤ x → year_one ≤ s + 31622400 → x < year_one + 31536000 → shift_at o rs s ≡ shift_at o rs x
shift_same o [] b s x l low high = refl
shift_same o (r ∷ rs) b s x l low high = one-row o r rs b.0 s x l low high (shift_same r.shift rs b.1 s x l low high)

module _ (z : Zone) (v : IsZone z) where
  -- the start of year 1 is crossed once
  pub border : (s x : ℕ) → s ≤ x → civil_one ≤ civil_of z s → civil_one ≤ civil_of z x
  border s x l h =
      let same = shift_same z.first z.rows v.bounded s x l (omega (arith, below z v s)) in
      grind (arith, nat_tests)

  -- on: only 22 arises, and stays
  on_joins : (a b x : ℕ) → Good z x → fixed_from z false (a + b) x ≡ and_then (fixed_from z false a x) (fixed_from z false b)
  on_joins a b x g =
      let same : x + 60 * (a + b) ≡ x + 60 * a + 60 * b = omega arith in
      let low = border x (x + 60 * a) (omega arith) g.low in
      let below = high z v (x + 60 * a) in
      grind (arith, nat_tests)

  -- further back than below z v year 1 is below z v year 1
  stays_low : (a b x : ℕ) → x < last_in z → 60 * a ≤ x → civil_of z (x - 60 * a) < civil_one → fixed_from z true (a + b) x ≡ refused Outside
  stays_low a b x known h l =
      let under = border (x - 60 * (a + b)) (x - 60 * a) in
      grind (arith, nat_tests)

  -- from what was moment on the way
  on_the_way : (a b x : ℕ) → 60 * a ≤ x → fixed_from z true (a + b) x ≡ fixed_from z true b (x - 60 * a)
  on_the_way a b x h =
      let same : x - 60 * (a + b) ≡ x - 60 * a - 60 * b = omega arith in
      grind (arith, nat_tests)

  -- back: only 12 arises, and stays
  back_joins : (a b x : ℕ) → Good z x → fixed_from z true (a + b) x ≡ and_then (fixed_from z true a x) (fixed_from z true b)
  back_joins a b x g =
      let low = stays_low a b x g.known in
      let on = on_the_way a b x in
      let below = high z v (x - 60 * a) in
      let known = g.known in
      grind (arith, nat_tests)

  pub zone_joins : (back : Bool) (a b x : ℕ) → Good z x → fixed_from z back (a + b) x ≡ and_then (fixed_from z back a x) (fixed_from z back b)
  zone_joins true a b x g = back_joins a b x g
  zone_joins false a b x g = on_joins a b x g

  -- the zone is a lawful world
  pub zone_lawful : Lawful (in_zone z) (λ x. Good z x.second)
  zone_lawful = record {
    refusal_stays = λ k. refl;
    settle_good = λ o x e.
        through (λ (x : Instant). Good z x.second) o (instant_at z) x e
        (λ t h k. with_good z v t.millisecond (resolve z (second_of_moment t)) x k (settle_keeps z v t));
    fixed_good = λ back k x y g e.
        with_good z v x.millisecond (fixed_from z back k x.second) y e (λ s h. fixed_keeps z v back k x.second s h);
    joins = λ back a b x g.
        ap (with_millisecond x.millisecond) (zone_joins back a b x.second g)
        ∙ then_assoc (fixed_from z back a x.second) (fixed_from z back b) (λ s. moment (instant_by s x.millisecond))
        ∙ sym (then_assoc (fixed_from z back a x.second) (λ s. moment (instant_by s x.millisecond)) ((in_zone z).fixed back b));
  }
