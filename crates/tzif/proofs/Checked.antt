-- What a file that was checked is known for: its tables are within it, its transitions rise, and its zone is within the bounds.
use Prim.Native.Nat.{ℕ, zero, suc, ◌+◌, ◌-◌, ◌*◌, ◌≤◌, ◌<◌}
use native.Mathlib.Numerals.{add-one}
use native.Mathlib.Omega.{arith}
use mathlib.Core.Path.{◌≡◌, refl, subst}
use mathlib.Core.Bool.{Bool, true, false, cond, ◌&&◌}
use mathlib.Core.List.{List}
use Rattle.std.specs.Prelude.{Option, Some, None}
use lib.Dec.{leb}
use lib.ListN.{length}
use Rattle.refusals.specs.Answers.{given}
use Rattle.std.proofs.lemmas.Bool.Decides.{nat_tests}
use Rattle.tzif.specs.Zones.{Zone, year_one, Ascending, Bounded, AllBounded, IsZone}
use Rattle.tzif.specs.File.{octet_at, time_at, offset_at, is_header, second_at, header_at, is_block, is_above, last_at, places_at, block_of, checked_of}
use Rattle.tzif.specs.File.{row_at, rows_from, zone_in, zone_by, zone_of}
use Rattle.tzif.specs.Read.{zone_read}
use Rattle.tzif.specs.declared.file.Header.{Header}
use Rattle.tzif.specs.declared.file.Places.{Places}
use Rattle.tzif.specs.declared.zone.Zone.{Zone as Checked}
use Rattle.tzif.proofs.Times.{passes}
use Rattle.tzif.proofs.Blocks.{Block, block}

-- what is known of a checked file's places
pub record Known (l : List ℕ) (p : Places) : Type 0 where
  pub times : p.times + 8 * p.count ≤ length l
  pub indexes : p.indexes + p.count ≤ length l
  pub first : p.types + 6 ≤ length l
  pub types : (i : ℕ) → i < p.count → p.types + 6 * octet_at l (p.indexes + i) + 6 ≤ length l
  pub some : 0 < offset_at l p.types 0
  pub below : offset_at l p.types 0 < 183600
  pub row : (i : ℕ) → i < p.count → Bounded (row_at l p i)
  pub rises : (i : ℕ) → i + 1 < p.count → time_at l p.times i < time_at l p.times (i + 1)
  pub last : p.last ≡ last_at l p.times p.count

-- one that is not the first is above the one before
above_before : (l : List ℕ) (b i : ℕ) → is_above l b (i + 1) ≡ true → time_at l b i < time_at l b (i + 1)
above_before l b i e = let back : i + 1 - 1 ≡ i = omega arith in let f = rw back at e in grind (arith, nat_tests)

module _ (l : List ℕ) (b : ℕ) (h : Header) where
  known_block : Block l b h → Known l (places_at l b h)
  unfolding places_at
  known_block k =
      let w = k.within in
      let t = k.typecnt in
      record {
        times = omega arith;
        indexes = omega arith;
        first = omega arith;
        types = λ i m. let index = (k.transition i m).index in omega arith;
        some = (k.type 0 (omega arith)).some;
        below = (k.type 0 (omega arith)).below;
        row = λ i m.
            let r = k.transition i m in
            let o = k.type (octet_at l (b + 8 * h.timecnt + i)) r.index in
            let t = passes (time_at l b i) r.time in
            record { some = o.some; shift = o.below; clear = t.clear; high = t.high };
        rises = λ i m. above_before l b i (k.transition (i + 1) m).above;
        last = refl;
      }

-- a test that was passed
passed : (t : Bool) (x : Option Places) (p : Places) → cond t x None ≡ Some p → (t ≡ true) × (x ≡ Some p)
passed true x p e = (refl, e)
passed false x p e = cc

-- a checked file's places are those of a block that passes
pub known : (l : List ℕ) (p : Places) → checked_of l ≡ Some p → Known l p
unfolding checked_of block_of
known l p e =
    let at = second_at l in
    let h = header_at l at in
    let one = passed (leb (length l) 65536 && (is_header l 0 && is_header l at)) (block_of l at) p e in
    let two = passed (is_block l (at + 44) h) (Some (places_at l (at + 44) h)) p one.1 in
    let same : places_at l (at + 44) h ≡ p = cc in
    subst (Known l) same (known_block l (at + 44) h (block l (at + 44) h two.0))

-- the bound of a transition, in numbers
pub time_high : (l : List ℕ) (p : Places) → Known l p → (i : ℕ) → i < p.count → time_at l p.times i < 9223372290225540608
unfolding year_one
time_high l p k i h = (k.row i h).high

-- and of the last one
pub last_high : (l : List ℕ) (p : Places) → Known l p → p.last < 9223372290225540608
unfolding last_at
last_high l p k =
    let some : 1 ≤ p.count → time_at l p.times (p.count - 1) < 9223372290225540608 = λ h. time_high l p k (p.count - 1) (omega arith) in
    rw k.last (grind (arith, nat_tests))

-- its zone is the one that is read at them
pub checked_zone : (l : List ℕ) (p : Places) → checked_of l ≡ Some p → zone_of l ≡ given (zone_in l p)
unfolding zone_of
checked_zone l p e = rw e

-- what a checked file stands for is the zone of the file
pub zone_checked : (l : List ℕ) (z : Checked) → checked_of l ≡ Some z.places → z.file.now ≡ l → zone_of l ≡ given (zone_read z)
unfolding zone_of
zone_checked l z e f = rw (e, f)

module _ (l : List ℕ) (p : Places) (k : Known l p) where
  pub rows_bounded : (i n : ℕ) → i + n ≤ p.count → AllBounded (rows_from l p i n)
  rows_bounded i zero h = tt
  rows_bounded i (suc n) h = (k.row i (omega arith), rows_bounded (suc i) n (omega arith))

  pub rows_ascending : (i n from : ℕ) → i + n ≤ p.count → (i < p.count → from ≤ time_at l p.times i) → Ascending from (rows_from l p i n)
  rows_ascending i zero from h low = tt
  rows_ascending i (suc n) from h low = (low (omega arith), rows_ascending (suc i) n (time_at l p.times i) (omega arith) next)
    where
      next : suc i < p.count → time_at l p.times i ≤ time_at l p.times (suc i)
      next m = let r = rw (add-one i) at (k.rises i (omega arith)) in omega arith

  -- and within the bounds
  pub known_zone : IsZone (zone_in l p)
  unfolding zone_in
  known_zone = record {
    some = k.some;
    first = k.below;
    ascending = rows_ascending 0 p.count 0 (omega arith) (λ m. omega arith);
    bounded = rows_bounded 0 p.count (omega arith);
  }

-- so every file's zone is
pub zone_is : (l : List ℕ) (z : Zone) → zone_of l ≡ given z → IsZone z
unfolding zone_of
zone_is l z e = go (checked_of l) refl e
  where
    go : (x : Option Places) → checked_of l ≡ x → zone_by l x ≡ given z → IsZone z
    go None f h = cc
    go (Some p) f h = let same : zone_in l p ≡ z = cc in subst IsZone same (known_zone l p (known l p f))
