-- A literal, or a word up to nineteen, with nothing behind it that could belong to it: all alternatives that read it agree.
use Rattle.std.specs.Prelude.{Some, None, Ok, Err}
use mathlib.Core.Path.{◌≡◌, refl, sym}
use mathlib.Core.Bool.{Bool, true, false, ◌&&◌}
use mathlib.Core.List.{List, ◌∷◌}
use mathlib.Core.Logic.{◌⊎◌, inl, inr, ⊎_elim}
use Prim.Native.Nat.{ℕ, ◌+◌, ◌*◌, ◌≤◌, ◌<◌}
use native.Mathlib.Omega.{arith}
use lib.Dec.{leb}
use lib.ListN.{drop}
use lib.Seq.{get_or-drop}
use borrow.Author.Tests.{leb-false, le-leb, ne_eqb}
use Rattle.lexer.specs.Lexemes.{Twenty, Ninety, Hundred, Billion, ST, ND, RD, TH, NUM, value_of, digits_of}
use Rattle.lexer.specs.declared.reading.Reading.{Reading}
use Rattle.lexer.specs.declared.reading.Reading.TheVariants.{First, Second}
use Rattle.numbers.specs.declared.Number.{Number}
use Rattle.numbers.specs.Slices.{get, within}
use Rattle.numbers.specs.Answers.{NumberFound, MAX, number, written, pick, or_else, and_then}
use Rattle.numbers.specs.Numbers.{is_ending, word_of, literal_of, literal_tokens, ones_of, teens_of, tens_of, tens_ones_of, num_double_of, hundreds_of, num_triple_of, units_of, num_step, num_of}
use Rattle.numbers.proofs.LexemeAt.{within_bounds, literal_bounds}
use Rattle.numbers.proofs.NumStep.{num_is}
use Rattle.numbers.proofs.Begins.{outside, never, not_at, no_unit}

-- an alternative that finds nothing or r, so that it changes nothing before r
record Yields (a r : NumberFound) : Type 0 where
  same : or_else a r ≡ r

either_same : (a b r : NumberFound) → or_else a r ≡ r → or_else b r ≡ r → or_else (or_else a b) r ≡ r
either_same (Ok (Some n)) b r e f = e
either_same (Ok None) b r e f = f
either_same (Err o) b r e f = e

either_yields : {a b r : NumberFound} → Yields a r → Yields b r → Yields (or_else a b) r
either_yields {a} {b} {r} e f = record { same = either_same a b r e.same f.same }

test_yields : (b : Bool) (n : Number) (r : NumberFound) → (b ≡ true → r ≡ Ok (Some n)) → Yields (pick b (Ok (Some n)) (Ok None)) r
test_yields true n r h = record { same = sym (h refl) }
test_yields false n r h = record { same = refl }

-- what is not nothing is what it yields to
yielded : (a r : NumberFound) → Yields a r → (a ≡ Ok None → ⊥) → a ≡ r
yielded (Ok (Some n)) r e h = e.same
yielded (Ok None) r e h = absurd (h refl)
yielded (Err o) r e h = e.same

-- what follows the number n finds nothing
nothing_behind : (a : NumberFound) (n : Number) (f : Number → NumberFound) → Yields a (Ok (Some n)) → f n ≡ Ok None → and_then a f ≡ Ok None
nothing_behind (Ok (Some m)) n f e h = let g : m ≡ n = cc in rw g h
nothing_behind (Ok None) n f e h = refl
nothing_behind (Err o) n f e h = cc

-- two alternatives that find nothing
both_nothing : (a b : NumberFound) → or_else a b ≡ Ok None → (a ≡ Ok None) × (b ≡ Ok None)
both_nothing (Ok (Some n)) b e = cc
both_nothing (Ok None) b e = (refl, e)
both_nothing (Err o) b e = cc

failed : (b : Bool) (n : Number) → pick b (Ok (Some n)) (Ok None) ≡ Ok None → b ≡ false
failed true n e = cc
failed false n e = refl

-- a range that was not met, behind a test that held, lies below
beyond : (b : Bool) → b ≡ true → (lo x hi : ℕ) (n : Number) → pick (b && within lo x hi) (Ok (Some n)) (Ok None) ≡ Ok None → lo ≤ x → hi < x
unfolding within
beyond b held lo x hi n e a = leb-false x hi (rw (held, le-leb lo x a) at (failed (b && within lo x hi) n e))

-- with no ending behind it a literal is one lexeme in either reading
one_token : (reading : Reading) (l : List ℕ) → is_ending (get l 1) ≡ false → literal_tokens reading l 1 ≡ 1
one_token First l e = refl
one_token Second l e = rw e

-- the first lexeme is a literal or a word, which alone is the number n, and none that begins more
module _ (reading : Reading) (l : List ℕ) (n : Number) (one : n.taken ≡ 1)
    (as-word : get l 0 < NUM → Ok (Some n) ≡ number (get l 0) 1) (as-literal : NUM ≤ get l 0 → Ok (Some n) ≡ written (value_of (get l 0)) (digits_of (get l 0)) 1)
    (first : Twenty ≤ get l 0 → get l 0 ≤ Billion → ⊥) (apart : Hundred ≤ get l 1 → get l 1 ≤ TH → ⊥) where
  word_yields : (lo hi : ℕ) → hi ≤ Ninety → Yields (word_of l lo hi 1) (Ok (Some n))
  unfolding word_of
  word_yields lo hi h =
      test_yields (within lo (get l 0) hi) _ _ (λ e.
      let b = within_bounds lo (get l 0) hi refl e in
      as-word (omega arith))

  literal_yields : (lo hi : ℕ) → Yields (literal_of l lo hi 1) (Ok (Some n))
  unfolding literal_of
  literal_yields lo hi =
      test_yields (leb NUM (get l 0) && within lo (value_of (get l 0)) hi) _ _ (λ e.
      as-literal (literal_bounds lo (get l 0) hi e).0)

  no_ending : is_ending (get l 1) ≡ false
  unfolding is_ending
  no_ending = rw (
    ne_eqb (get l 1) ST (λ e. apart (omega arith) (omega arith)),
    ne_eqb (get l 1) RD (λ e. apart (omega arith) (omega arith)),
    ne_eqb (get l 1) ND (λ e. apart (omega arith) (omega arith)),
    ne_eqb (get l 1) TH (λ e. apart (omega arith) (omega arith)),
  )

  one-literal : literal_tokens reading l 1 ≡ 1
  one-literal = one_token reading l no_ending

  ones_are : ones_of l ≡ or_else (word_of l 1 9 1) (literal_of l 0 9 1)
  unfolding ones_of
  ones_are = rw no_ending

  teens_are : teens_of reading l ≡ or_else (word_of l 10 19 1) (literal_of l 10 19 1)
  unfolding teens_of
  teens_are = rw (not_at l 1 TH (λ e. apart (omega arith) (omega arith)), one-literal)

  double_is : num_double_of reading l ≡ or_else (teens_of reading l) (or_else (ones_of l) (literal_of l 20 99 1))
  unfolding num_double_of tens_ones_of tens_of word_of
  double_is =
      rw (
        never (within 20 (get l 0) 90) _ (λ e.
            let b = within_bounds 20 (get l 0) 90 refl e in
            first (omega arith) (omega arith)),
        one-literal,
      )

  ones_yield : Yields (ones_of l) (Ok (Some n))
  ones_yield = rw ones_are (either_yields (word_yields 1 9 (omega arith)) (literal_yields 0 9))

  no_hundreds : hundreds_of reading l (ones_of l) ≡ Ok None
  unfolding hundreds_of
  no_hundreds = nothing_behind (ones_of l) n _ ones_yield (rw (one, not_at l 1 Hundred (λ e. apart (omega arith) (omega arith))))

  triple_is : num_triple_of reading l ≡ or_else (num_double_of reading l) (literal_of l 100 999 1)
  unfolding num_triple_of hundreds_of
  triple_is = rw (no_hundreds, not_at l 0 Hundred (λ e. first (omega arith) (omega arith)), no_ending)

  triple_yields : Yields (num_triple_of reading l) (Ok (Some n))
  triple_yields =
      let teens = either_yields (word_yields 10 19 (omega arith)) (literal_yields 10 19) in
      rw (triple_is, double_is, teens_are)
      (either_yields (either_yields teens (either_yields ones_yield (literal_yields 20 99))) (literal_yields 100 999))

  no_units : units_of (num_of reading) l (num_triple_of reading l) ≡ Ok None
  unfolding units_of get
  no_units =
      nothing_behind (num_triple_of reading l) n _ triple_yields (rw (
        one,
        no_unit (drop 1 l) (λ a b.
            let g = get_or-drop 1 l 0 0 in
            apart (omega arith) (omega arith)),
      ))

  num_plain : num_of reading l ≡ or_else (num_triple_of reading l) (literal_of l 1000 MAX 1)
  unfolding num_step units_of
  num_plain = rw (num_is reading l, no_units, no_unit l (λ a b. first (omega arith) (omega arith)), one-literal)

  -- each range of literals, and of words up to nineteen, is met by an alternative
  module _ (none : num_of reading l ≡ Ok None) where
    num : (num_triple_of reading l ≡ Ok None) × (literal_of l 1000 MAX 1 ≡ Ok None)
    num = both_nothing (num_triple_of reading l) (literal_of l 1000 MAX 1) (rw num_plain at none)

    triple : (num_double_of reading l ≡ Ok None) × (literal_of l 100 999 1 ≡ Ok None)
    triple = both_nothing (num_double_of reading l) (literal_of l 100 999 1) (rw triple_is at num.0)

    double : (teens_of reading l ≡ Ok None) × (or_else (ones_of l) (literal_of l 20 99 1) ≡ Ok None)
    double = both_nothing (teens_of reading l) (or_else (ones_of l) (literal_of l 20 99 1)) (rw double_is at triple.0)

    teens : (word_of l 10 19 1 ≡ Ok None) × (literal_of l 10 19 1 ≡ Ok None)
    teens = both_nothing (word_of l 10 19 1) (literal_of l 10 19 1) (rw teens_are at double.0)

    behind : (ones_of l ≡ Ok None) × (literal_of l 20 99 1 ≡ Ok None)
    behind = both_nothing (ones_of l) (literal_of l 20 99 1) double.1

    ones : (word_of l 1 9 1 ≡ Ok None) × (literal_of l 0 9 1 ≡ Ok None)
    ones = both_nothing (word_of l 1 9 1) (literal_of l 0 9 1) (rw ones_are at behind.0)

    beyond_words : 1 ≤ get l 0 → 19 < get l 0
    unfolding word_of
    beyond_words h = beyond true refl 10 (get l 0) 19 _ teens.0 (beyond true refl 1 (get l 0) 9 _ ones.0 h)

    beyond_literals : NUM ≤ get l 0 → MAX < value_of (get l 0)
    unfolding literal_of
    beyond_literals h =
        let v = value_of (get l 0) in
        let range = beyond (leb NUM (get l 0)) (le-leb NUM (get l 0) h) in
        range 1000 v MAX _ num.1
        (range 100 v 999 _ triple.1
        (range 20 v 99 _ behind.1
        (range 10 v 19 _ teens.1
        (range 0 v 9 _ ones.1 (omega arith)))))

  -- then it is the number
  num_alone : ((1 ≤ get l 0) × (get l 0 ≤ 19)) ⊎ (NUM ≤ get l 0) → num_of reading l ≡ Ok (Some n)
  num_alone h =
      yielded (num_of reading l) (Ok (Some n)) (rw num_plain (either_yields triple_yields (literal_yields 1000 MAX))) (λ none.
      ⊎_elim (λ w. let b = beyond_words none w.0 in omega arith) (λ w. let b = beyond_literals none w in omega arith) h)

-- a number word up to nineteen, or a literal, is the whole number where nothing that could belong to it stands behind it
pub alone : (reading : Reading) (l : List ℕ) → within Hundred (get l 1) TH ≡ false
    → or_else (or_else (word_of l 1 19 1) (literal_of l 0 MAX 1)) (num_of reading l) ≡ num_of reading l
unfolding word_of literal_of
alone reading l none =
    let x = get l 0 in
    let apart = outside Hundred (get l 1) TH none in
    (either_yields
    (test_yields (within 1 x 19) _ (num_of reading l) (λ e.
    let b = within_bounds 1 x 19 refl e in
    num_alone reading l _ refl (λ h. refl) (λ h. absurd (omega arith)) (λ h k. omega arith) apart (inl b)))
    (test_yields (leb NUM x && within 0 (value_of x) MAX) _ (num_of reading l) (λ e.
    let b = literal_bounds 0 x MAX e in
    num_alone reading l _ refl (λ h. absurd (omega arith)) (λ h. refl) (λ h k. omega arith) apart (inr b.0)))
    ).same

-- so a literal of d digits in front of what joins no number is its value, of one lexeme
pub literal_num : (reading : Reading) (d v : ℕ) (r : List ℕ) → 0 < d → v ≤ MAX → within Hundred (get r 0) TH ≡ false
    → num_of reading ((NUM * d + v) ∷ r) ≡ written v d 1
unfolding get
literal_num reading d v r some most none =
    let value : value_of (NUM * d + v) ≡ v = omega arith in
    let digits : digits_of (NUM * d + v) ≡ d = omega arith in
    num_alone reading ((NUM * d + v) ∷ r) (record { value = v; digits = d; taken = 1 }) refl
    (λ h. absurd (omega arith)) (λ h. rw (value, digits)) (λ h k. omega arith) (outside Hundred (get r 0) TH none) (inr (omega arith))
