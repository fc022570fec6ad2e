-- A fixed length between two instants of one offset is the calendar's; so a zone of one offset gives, below its last transition, what the fixed
-- offset gives.
use Prim.Native.Nat.{ℕ, ◌+◌, ◌-◌, ◌*◌, ◌≤◌, ◌<◌}
use native.Mathlib.Omega.{arith}
use mathlib.Core.Path.{◌≡◌, refl, ap, sym, subst, ◌∙◌}
use mathlib.Core.Bool.{Bool, true, false}
use mathlib.Core.List.{[], ◌∷◌}
use Rattle.std.proofs.lemmas.Bool.Decides.{nat_tests}
use Rattle.calendar.specs.Moments.{moment, Outcome, IsMoment, minutes_step, seconds, moment_at}
use Rattle.phrase.specs.Tree.{DateTime}
use Rattle.evaluation.specs.Worlds.{offset}
use Rattle.evaluation.specs.Evaluate.{evaluate_in, evaluate}
use Rattle.answer.proofs.Leads.{Leads, leads, refuses}
use Rattle.tzif.specs.Zones.{Row, Zone, IsZone}
use Rattle.zones.specs.Civil.{shift_at, civil_of, last_in, resolve, civil_one, moment_of_second, second_of_moment}
use Rattle.zones.specs.Instants.{instant_by, arrive, fixed_from, clock_of, Good, Shown}
use Rattle.zones.specs.declared.instants.Instant.{Instant}
use Rattle.zoned.specs.InZone.{in_zone}
use Rattle.calendar.proofs.Seconds.{later_second, earlier_second}
use Rattle.zones.proofs.Bounds.{through, settle_civil, good_moment, high, fixed_keeps}
use Rattle.zoned.proofs.Joins.{zone_lawful}
use Rattle.zoned.proofs.Follows.{Led, Follows, tree-follows}

module _ (z : Zone) (v : IsZone z) where
  -- what arrives is where it arrives
  arrives : (s y : ℕ) → arrive z s ≡ moment y → s ≡ y
  arrives s y e = grind (arith, nat_tests)

  back-arrives : (k x y : ℕ) → fixed_from z true k x ≡ moment y → y + 60 * k ≡ x
  back-arrives k x y e = grind (arith, nat_tests)

  -- between two instants of one offset a fixed length is the calendar's
  fixed-civil :
      (back : Bool) (k x y ms : ℕ) → Good z x → fixed_from z back k x ≡ moment y → shift_at z.first z.rows x ≡ shift_at z.first z.rows y →
      minutes_step back k (moment_of_second (civil_of z x) ms) ≡ moment (moment_of_second (civil_of z y) ms)
  fixed-civil false k x y ms g e o =
      let g' = fixed_keeps z v false k x y e in
      let far = arrives (x + 60 * k) y e in
      let to = on (civil_of z x) (civil_of z y) civil_one k g.low (omega arith) in
      later_second (civil_of z x - civil_one) k ms
      (inside (civil_of z x) (civil_of z y) civil_one k seconds g.low (omega arith) (high z v y g'.known))
      ∙ ap (λ (n : ℕ). moment (moment_at n ms)) to
    where
      on : (c d b k : ℕ) → b ≤ c → c + 60 * k ≡ d → c - b + 60 * k ≡ d - b
      on c d b k h e = omega arith

      inside : (c d b k n : ℕ) → b ≤ c → c + 60 * k ≡ d → d < b + n → c - b + 60 * k < n
      inside c d b k n h e l = omega arith
  fixed-civil true k x y ms g e o =
      let g' = fixed_keeps z v true k x y e in
      let far = back-arrives k x y e in
      let from = off (civil_of z x) (civil_of z y) civil_one k g'.low (omega arith) in
      ap (λ (n : ℕ). minutes_step true k (moment_at n ms)) from ∙ earlier_second (civil_of z y - civil_one) k ms
    where
      off : (c d b k : ℕ) → b ≤ d → d + 60 * k ≡ c → c - b ≡ d - b + 60 * k
      off c d b k h e = omega arith

-- a zone of one offset up to its last transition
module _ (o : ℕ) (r : Row) where
  abbrev pub single : Zone
  single = record { first = o; rows = r ∷ [] }

  pub one_shift : (x : ℕ) → x < last_in single → shift_at o (r ∷ []) x ≡ o
  one_shift x h = grind (arith, nat_tests)

  module _ (v : IsZone single) where
    -- a civil moment that settles
    settled : {a : Outcome} (y : Instant) → Leads IsMoment a → (in_zone single).settle a ≡ moment y → Led (in_zone single) offset (Shown single) (clock_of single) a y
    settled y (leads {t} h) e = record {
      is = ap moment (sym (settle_civil single v t y h e));
      good = record {
        good = (zone_lawful single v).settle_good (moment t) y e;
        small =
            through (λ (x : Instant). x.millisecond < 1000) (resolve single (second_of_moment t))
            (λ s. moment (instant_by s t.millisecond)) y e
            (λ s _ k. let same : instant_by s t.millisecond ≡ y = cc in subst (λ (x : Instant). x.millisecond < 1000) same h.time.millisecond);
      };
    }
    settled y (refuses _) e = cc

    -- a fixed length
    moved : (back : Bool) (k : ℕ) (x y : Instant) → Shown single x → (in_zone single).fixed back k x ≡ moment y →
        Led (in_zone single) offset (Shown single) (clock_of single) (minutes_step back k (clock_of single x)) y
    moved back k x y g e =
        through (Led (in_zone single) offset (Shown single) (clock_of single) (minutes_step back k (clock_of single x)))
        (fixed_from single back k x.second) (λ s. moment (instant_by s x.millisecond)) y e
        (λ s h f.
        let same : instant_by s x.millisecond ≡ y = cc in
        let there = fixed_keeps single v back k x.second s h in
        let alike = one_shift x.second g.good.known ∙ sym (one_shift s there.known) in
        subst (Led (in_zone single) offset (Shown single) (clock_of single) (minutes_step back k (clock_of single x))) same
        (record {
          is = fixed-civil single v back k x.second s x.millisecond g.good h alike;
          good = record { good = there; small = g.small };
        }))

    pub follows : Follows (in_zone single) offset (Shown single) (clock_of single)
    follows = record {
      civil = λ x g. refl;
      moments = λ x g. good_moment single v x g.good g.small;
      settle = λ a y l e. settled y l e;
      fixed = moved;
    }

    -- gives what the fixed offset gives
    pub one-offset : (x : DateTime) (n y : Instant) → Shown single n → evaluate_in (in_zone single) x n ≡ moment y → evaluate x (clock_of single n) ≡ moment (clock_of single y)
    one-offset x n y g e = tree-follows (in_zone single) offset (Shown single) (clock_of single) follows x n y g e
