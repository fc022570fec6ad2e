-- `lexer::find::find` meets its contract. The loop's invariant: each row before `lo` is less than the word that the numbers stand for,
-- each from `hi` on is more, and the rows that were compared are those that were visited. Assumes nothing.
use mathlib.Core.Path.{◌≡◌, refl, sym, ap, ◌∙◌}
use mathlib.Core.List.{List, []}
use Prim.Native.Nat.{ℕ, suc, ◌+◌, ◌-◌, ◌/◌, ◌≤◌, ◌<◌}
use native.Mathlib.Omega.{arith}
use lib.ListN.{length}
use lib.Seq.{take_all, slice, slice_empty}
use Rattle.digits.proofs.Order.{Tri, below, equal, above, tri}
use Rattle.lexer.specs.Keywords.{words_in, count_in}
use Rattle.lexer.specs.Words.{Word, ordered}
use Rattle.lexer.specs.Table.{sorted, spelling_at, Stands}
use Rattle.lexer.specs.Visits.{onward, visits}
use Rattle.std.specs.declared.cmp.Ordering.{Ordering}
use Rattle.std.specs.declared.cmp.Ordering.TheVariants.{Less, Equal, Greater}
use Rattle.std.specs.Prelude.{Option, Some}
use Rattle.lexer.specs.declared.find.Looked.{Looked}
use Rattle.lexer.specs.declared.reading.Reading.{Reading}
use Rattle.lexer.proofs.Order.{clash}
use Rattle.lexer.proofs.Sorting.{meaning_sorted}
use Rattle.lexer.proofs.Halves.{all_less, all_more, none_before, absent, present}
use Rattle.lexer.proofs.Rows.{rows_count, rows_increasing, in_table, row_short, row_small}
use Rattle.lexer.proofs.Visited.{visits_part}
use Rattle.lexer.proofs.find.find.Invariants.{Below, Above}
use Rattle.lexer.proofs.find.find.Goals as goal
use Rattle.lexer.proofs.find.find.Goals.{After-compare-order}

-- an answer by its two parts
looked : {f g : Option ℕ} {n m : ℕ} → f ≡ g → n ≡ m → ◌≡◌ {A = Looked} (record { code = f; count = n }) (record { code = g; count = m })
looked e d = cc

-- no row is left between `lo` and `hi`: none spells w
none_left : (ws : List Word) (w : List ℕ) (lo hi : ℕ) → hi ≤ lo → Below ws w lo → Above ws w hi
    → (k : ℕ) → k < length ws → ordered (spelling_at ws k) w ≡ Equal → ⊥
none_left ws w lo hi l low high k h = go (tri k lo)
  where
    go : Tri k lo → ordered (spelling_at ws k) w ≡ Equal → ⊥
    go (below a) e = clash (low k a) e tt
    go (equal a) e = clash (high k (omega arith) h) e tt
    go (above a) e = clash (high k (omega arith) h) e tt

-- the middle row beside the word
module _ (c : After-compare-order) where
  abbrev reading : Reading
  reading = c.args.words.reading

  abbrev rows : List Word
  rows = sorted (words_in reading)

  abbrev mid : ℕ
  mid = (c.loop-lo.lo + c.loop-lo.hi - 1) / 2

  -- it is one of the reading's rows
  mid_below : mid < count_in reading
  mid_below = omega arith

  mid_in : mid < length rows
  mid_in = in_table reading mid mid_below

  -- how it stands to the word is what was compared
  compared : (w : List ℕ) → Stands c.args.head c.args.tail w → ordered (spelling_at rows mid) w ≡ c.compare-order.result
  compared w k =
      k.orders (spelling_at rows mid) (row_small reading mid mid_below) (row_short reading mid mid_below) ∙ sym c.compare-order.ensures

  -- the rows left have it in the middle
  halved : (w : List ℕ) → Stands c.args.head c.args.tail w → (o : Ordering) → c.compare-order.result ≡ o
      → visits (slice c.loop-lo.lo c.loop-lo.hi rows) w
      ≡ suc (onward o (visits (slice (mid + 1) c.loop-lo.hi rows) w) (visits (slice c.loop-lo.lo mid rows) w))
  halved w k o e =
      rw (← (compared w k ∙ e))
      (visits_part w rows c.loop-lo.lo c.loop-lo.hi mid (omega arith) (omega (arith, rows_count reading)) refl)

pub loop-lo-init : goal.loop-lo-init
loop-lo-init c =
    let reading = c.args.words.reading in
    let count = rows_count reading in
    let hi : c.count-hi.result ≡ count_in reading = c.count-hi.ensures in
    record {
      within = omega arith;
      ends = omega arith;
      few = omega arith;
      known = λ w k. record {
        low = λ i h. absurd (omega arith);
        high = λ i h l. absurd (omega arith);
        counted = omega (arith, ap (λ (ws : List Word). visits ws w) (take_all c.count-hi.result (sorted (words_in reading)) (omega arith)));
      };
    }

pub loop-lo-preserved-in-Less : goal.loop-lo-preserved-in-Less
loop-lo-preserved-in-Less c =
    let here = (goal.at.loop-lo-preserved-in-Less c).After-compare-order in
    let told = c.in-Less.is in
    record {
      within = omega arith;
      ends = omega arith;
      few = omega arith;
      known = λ w k.
          let known = c.loop-lo.invariant.known w k in
          record {
            low = all_less (rows here) (rows_increasing (reading here)) w (mid here) (mid_in here) (compared here w k ∙ told);
            high = known.high;
            counted = omega (arith, known.counted, halved here w k Less told);
          };
    }

pub returns-in-Equal : goal.returns-in-Equal
returns-in-Equal c =
    let here = (goal.at.returns-in-Equal c).After-compare-order in
    λ w k.
    let told = c.in-Equal.is in
    let e : ordered (spelling_at (rows here) (mid here)) w ≡ Equal = compared here w k ∙ told in
    let none = none_before (rows here) (rows_increasing (reading here)) w (mid here) (mid_in here) e in
    looked
    (ap Some c.lexeme_at.ensures ∙ sym (present (rows here) w (mid here) (mid_in here) none e) ∙ meaning_sorted (words_in (reading here)) w)
    (omega (arith, (c.loop-lo.invariant.known w k).counted, halved here w k Equal told))

pub loop-lo-preserved : goal.loop-lo-preserved
loop-lo-preserved c =
    let here = (goal.at.loop-lo-preserved c).After-compare-order in
    let told = c.in-Greater.is in
    record {
      within = omega arith;
      ends = omega arith;
      few = omega arith;
      known = λ w k.
          let known = c.loop-lo.invariant.known w k in
          record {
            low = known.low;
            high = all_more (rows here) (rows_increasing (reading here)) w (mid here) (mid_in here) (compared here w k ∙ told);
            counted = omega (arith, known.counted, halved here w k Greater told);
          };
    }

pub returns : goal.returns
unfolding visits
returns c =
    λ w k.
    let l = c.loop-lo in
    let known = l.invariant.known w k in
    let words = words_in c.args.words.reading in
    let end : l.lo ≡ l.hi = omega (arith, c.loop-lo-test.false) in
    let none : slice l.lo l.hi (sorted words) ≡ [] = rw end (slice_empty l.hi (sorted words)) in
    looked
    (sym (absent (sorted words) w (none_left (sorted words) w l.lo l.hi c.loop-lo-test.false known.low known.high))
    ∙ meaning_sorted words w)
    (omega (arith, known.counted, ap (λ (ws : List Word). visits ws w) none))
