-- Runs of bytes of one class, a byte at a time. Assumes nothing.
use mathlib.Core.Path.{◌≡◌, refl}
use mathlib.Core.Bool.{Bool, true, false, false≢true, cond}
use mathlib.Core.List.{List, [], ◌∷◌}
use Prim.Native.Nat.{ℕ, suc, ◌+◌, ◌*◌, ◌-◌, ◌≤◌, ◌<◌, zero-le}
use native.Mathlib.Numerals.{add-one}
use native.Mathlib.Omega.{arith}
use lib.ListN.{length, get_or, drop, drop_of_length-le, length-drop}
use lib.Seq.{drop-cons}
use Rattle.digits.specs.Digits.{is_digit, value_from}
use borrow.Author.Tests.{ltb-true, ltb-false}
use lib.Dec.{eqb, ltb}
use Rattle.std.specs.Prelude.{is_some}
use Rattle.refusals.specs.Answers.{between}
use Rattle.digits.proofs.Again.{test_digit}
use Rattle.digits.proofs.Tabled.{all_below, each_below}
use Rattle.lexer.specs.Classes.{Gap, Letter, Digit, Mark, Stray, is_letter, class_of, mark_of, same_class}
use Rattle.lexer.specs.Lex.{run, run_end, is_digit_at}
use Rattle.lexer.specs.declared.class.Class.{Class}
use Rattle.lexer.proofs.Order.{counted}

-- a class is the same as itself
pub same_self : (k : Class) → same_class k k ≡ true
same_self Gap = refl
same_self Letter = refl
same_self Digit = refl
same_self Mark = refl
same_self Stray = refl

-- and as no other
pub same_only : (j k : Class) → same_class j k ≡ true → j ≡ k
same_only Gap k e = grind arith
same_only Letter k e = grind arith
same_only Digit k e = grind arith
same_only Mark k e = grind arith
same_only Stray k e = grind arith

-- two classes that differ are not the same
pub same_not : (j k : Class) → (j ≡ k → ⊥) → same_class j k ≡ false
same_not j k n = go (same_class j k) refl
  where
    go : (b : Bool) → same_class j k ≡ b → b ≡ false
    go true e = absurd (n (same_only j k e))
    go false e = refl

-- the run of class k from e on, by the byte at e
module _ (k : Class) (s : List ℕ) (e : ℕ) where
  pub run_step : e < length s → class_of (get_or s e 0) ≡ k → run k (drop e s) ≡ suc (run k (drop (e + 1) s))
  run_step h c = rw (drop-cons s e 0, add-one, c) (simp (same_self k))

  pub run_stop : e < length s → (class_of (get_or s e 0) ≡ k → ⊥) → run k (drop e s) ≡ 0
  run_stop h c = rw (drop-cons s e 0) (simp (same_not (class_of (get_or s e 0)) k c))

  pub run_over : length s ≤ e → run k (drop e s) ≡ 0
  run_over h = rw (drop_of_length-le s h)

pub run_most : (k : Class) (l : List ℕ) → run k l ≤ length l
run_most k [] = zero-le
run_most k (b ∷ bs) = counted (same_class (class_of b) k) true (run k bs) (length bs) (λ e. refl) (run_most k bs)

-- a run ends within the phrase
pub run_within : (k : Class) (s : List ℕ) (a : ℕ) → a ≤ length s → run_end k s a ≤ length s
run_within k s a h = omega (arith, run_most k (drop a s), length-drop a s)

-- n bytes from i on that are all of class k, by one computation
pub classed : (i n : ℕ) (k : Class) → all_below (λ j. same_class (class_of (i + j)) k) n ≡ true → (b : ℕ) → i ≤ b → b < i + n → class_of b ≡ k
classed i n k all b low high =
    let there : i + (b - i) ≡ b = omega arith in
    same_only (class_of b) k (rw there at (each_below (λ j. same_class (class_of (i + j)) k) n all (b - i) (omega arith)))

-- a digit is of the class of digits
pub digit_class : (b : ℕ) → is_digit b ≡ true → class_of b ≡ Digit
unfolding class_of mark_of
digit_class b h = let d = test_digit b h in classed 48 10 Digit refl b d.low (omega (arith, d.high))

-- no other byte is
no_digit_class : (b : ℕ) → is_digit b ≡ false → class_of b ≡ Digit → ⊥
unfolding class_of
no_digit_class b h c = go (eqb b 32) (eqb b 9) (is_letter b) (is_some (mark_of b)) (simp h at c)
  where
    go : (x y l m : Bool) → cond x Gap (cond y Gap (cond l Letter (cond m Mark Stray))) ≡ Digit → ⊥
    go true y l m q = cc
    go false true l m q = cc
    go false false true m q = cc
    go false false false true q = cc
    go false false false false q = cc

-- the digits from e on
module _ (s : List ℕ) (e : ℕ) where
  pub digit_stands : is_digit_at s e ≡ true → (e < length s) × (is_digit (get_or s e 0) ≡ true)
  digit_stands h = go (ltb e (length s)) refl h
    where
      go : (b : Bool) → ltb e (length s) ≡ b → cond b (is_digit (get_or s e 0)) false ≡ true → (e < length s) × (is_digit (get_or s e 0) ≡ true)
      go true p q = (ltb-true e (length s) p, q)
      go false p q = absurd (false≢true q)

  -- with one there the run goes on
  pub digits_on : is_digit_at s e ≡ true → run Digit (drop e s) ≡ suc (run Digit (drop (e + 1) s))
  digits_on h = let at = digit_stands h in run_step Digit s e at.0 (digit_class (get_or s e 0) at.1)

  -- with none there it ends
  pub digits_end : is_digit_at s e ≡ false → run Digit (drop e s) ≡ 0
  digits_end h = go (ltb e (length s)) refl h
    where
      go : (b : Bool) → ltb e (length s) ≡ b → cond b (is_digit (get_or s e 0)) false ≡ false → run Digit (drop e s) ≡ 0
      go true p q = run_stop Digit s e (ltb-true e (length s) p) (no_digit_class (get_or s e 0) q)
      go false p q = run_over Digit s e (ltb-false e (length s) p)

  -- what they say behind v: the first of them, and the others
  pub digit_more :
      (v : ℕ) → is_digit_at s e ≡ true →
      value_from v (between s e (run_end Digit s e)) ≡ value_from (v * 10 + (get_or s e 0 - 48)) (between s (e + 1) (run_end Digit s (e + 1)))
  digit_more v h =
      let here : e + run Digit (drop e s) - e ≡ suc (run Digit (drop (e + 1) s)) = omega (arith, digits_on h) in
      let next : e + 1 + run Digit (drop (e + 1) s) - (e + 1) ≡ run Digit (drop (e + 1) s) = omega arith in
      rw (here, next, drop-cons s e 0 (digit_stands h).0, add-one)

  pub digits_over : (v : ℕ) → is_digit_at s e ≡ false → value_from v (between s e (run_end Digit s e)) ≡ v
  digits_over v h = let none : e + run Digit (drop e s) - e ≡ 0 = omega (arith, digits_end h) in rw none
