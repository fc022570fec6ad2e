-- Each alternative of a number reader tests the first lexeme: where no number begins with it, none is read.
use Rattle.std.specs.Prelude.{None, Ok}
use mathlib.Core.Path.{◌≡◌, refl}
use mathlib.Core.Bool.{Bool, true, false, ◌||◌, true≢false, and-false}
use mathlib.Core.List.{List}
use Prim.Native.Nat.{ℕ, ◌≤◌}
use native.Mathlib.Omega.{arith}
use lib.Dec.{leb, ltb}
use lib.ListN.{length}
use borrow.Author.Tests.{le-leb, ne_eqb}
use Rattle.lexer.specs.Lexemes.{One, Ninety, Hundred, Thousand, Million, Billion, NUM}
use Rattle.lexer.specs.declared.reading.Reading.{Reading}
use Rattle.numbers.specs.Slices.{get, is_at, within}
use Rattle.numbers.specs.Answers.{NumberFound, MAX, pick}
use Rattle.numbers.specs.Numbers.{begins_number, word_of, literal_of, ones_of, teens_of, tens_of, tens_ones_of, num_double_of, hundreds_of, num_triple_of, num_triple_unit_of, units_of, num_step, num_of}
use Rattle.numbers.proofs.LexemeAt.{within_bounds}
use Rattle.numbers.proofs.NumStep.{num_is}

-- none of three tests held
failed : (p q r : Bool) → p || (q || r) ≡ false → (p ≡ false) × (q ≡ false) × (r ≡ false)
failed true q r e = absurd (true≢false e)
failed false true r e = absurd (true≢false e)
failed false false r e = (refl, refl, e)

-- a test `within` that failed
pub outside : (lo x hi : ℕ) → within lo x hi ≡ false → lo ≤ x → x ≤ hi → ⊥
unfolding within
outside lo x hi e a b = true≢false (rw (le-leb lo x a, le-leb x hi b) at e)

-- a test that cannot hold
pub never : (b : Bool) (w : NumberFound) → (b ≡ true → ⊥) → pick b w (Ok None) ≡ Ok None
never true w h = absurd (h refl)
never false w h = refl

-- a lexeme that does not stand there
pub not_at : (l : List ℕ) (i x : ℕ) → (get l i ≡ x → ⊥) → is_at l i x ≡ false
unfolding is_at get
not_at l i x h = rw (ne_eqb (get l i) x h) (and-false (ltb i (length l)))

-- no unit word
pub no_unit : (l : List ℕ) → (Hundred ≤ get l 0 → get l 0 ≤ Billion → ⊥) → num_triple_unit_of l ≡ Ok None
unfolding num_triple_unit_of
no_unit l out = rw (
  not_at l 0 Thousand (λ e. out (omega arith) (omega arith)),
  not_at l 0 Million (λ e. out (omega arith) (omega arith)),
  not_at l 0 Billion (λ e. out (omega arith) (omega arith)),
)

module _ (reading : Reading) (l : List ℕ) (none : begins_number (get l 0) ≡ false) where
  tests : (within One (get l 0) Ninety ≡ false) × (within Hundred (get l 0) Billion ≡ false) × (leb NUM (get l 0) ≡ false)
  unfolding begins_number
  tests = failed _ _ _ none

  no_word : (lo hi tokens : ℕ) → One ≤ lo → hi ≤ Ninety → word_of l lo hi tokens ≡ Ok None
  unfolding word_of
  no_word lo hi tokens a b =
      never (within lo (get l 0) hi) _ (λ e.
      let h = within_bounds lo (get l 0) hi refl e in
      outside One (get l 0) Ninety tests.0 (omega arith) (omega arith))

  no_literal : (lo hi tokens : ℕ) → literal_of l lo hi tokens ≡ Ok None
  unfolding literal_of
  no_literal lo hi tokens = rw tests.2

  no_unit_word : Hundred ≤ get l 0 → get l 0 ≤ Billion → ⊥
  no_unit_word = outside Hundred (get l 0) Billion tests.1

  no_ones : ones_of l ≡ Ok None
  unfolding ones_of
  no_ones = rw (no_word 1 9 _ (omega arith) (omega arith), no_literal 0 9 _)

  no_double : num_double_of reading l ≡ Ok None
  unfolding num_double_of tens_ones_of tens_of teens_of
  no_double = rw (no_word 20 90 _ (omega arith) (omega arith), no_word 10 19 _ (omega arith) (omega arith), no_literal 10 19 _, no_ones, no_literal 20 99 _)

  no_triple : num_triple_of reading l ≡ Ok None
  unfolding num_triple_of hundreds_of
  no_triple = rw (no_ones, not_at l 0 Hundred (λ e. no_unit_word (omega arith) (omega arith)), no_double, no_literal 100 999 _)

  -- what no number begins with has none
  pub no_num : num_of reading l ≡ Ok None
  unfolding num_step units_of
  no_num = rw (num_is reading l, no_triple, no_unit l no_unit_word, no_literal 1000 MAX _)
