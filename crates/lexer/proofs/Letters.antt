-- The letters of a word, one after the other. Assumes nothing.
use mathlib.Core.Path.{◌≡◌, refl, sym, ap, ◌∙◌}
use mathlib.Core.Bool.{Bool, true, false, cond, false≢true}
use mathlib.Core.List.{List, [], ◌∷◌}
use Prim.Native.Nat.{ℕ, zero, suc, ◌+◌, ◌-◌, ◌≤◌, ◌<◌}
use native.Mathlib.Nat.{not-suc-le-zero, le_of_suc-le-suc}
use native.Mathlib.Numerals.{add-one}
use native.Mathlib.Omega.{arith}
use lib.Dec.{T, eqb, leb, leb→le, ltb}
use lib.Ieee.Fits.{and_i, and_r}
use lib.ListN.{length, get_or, take, drop, drop_of_length-le, length-map}
use lib.Seq.{drop-cons, drop-drop, length-take-le}
use borrow.Author.Tests.{eqb-true, ltb-true, ltb-false}
use Rattle.digits.specs.Digits.{is_digit}
use Rattle.lexer.specs.Words.{lower_of, small, folded}
use Rattle.std.specs.Prelude.{Some, None, is_some}
use Rattle.lexer.specs.Classes.{Gap, Letter, Digit, Mark, Stray, is_letter, letter_of, class_of, mark_of, same_class}
use Rattle.lexer.specs.Table.{fixed, bytes_from, tail_of}
use Rattle.lexer.specs.Lex.{run, word_from, letter_at}
use Rattle.lexer.proofs.Runs.{same_not, run_most, run_step, run_stop, run_over}

true_T : (b : Bool) → b ≡ true → T b
true_T b e = rw e tt

-- a letter is of the class of letters, and no other byte is
module _ (b : ℕ) where
  letter_class : is_letter b ≡ true → class_of b ≡ Letter
  unfolding class_of
  letter_class e = go (eqb b 32) refl (eqb b 9) refl
    where
      go : (x : Bool) → eqb b 32 ≡ x → (y : Bool) → eqb b 9 ≡ y → class_of b ≡ Letter
      go true p y q = absurd (false≢true (ap is_letter (sym (eqb-true b 32 p)) ∙ e))
      go false p true q = absurd (false≢true (ap is_letter (sym (eqb-true b 9 q)) ∙ e))
      go false p false q = simp (p, q, e)

  other_class : is_letter b ≡ false → class_of b ≡ Letter → ⊥
  unfolding class_of
  other_class e c = go (eqb b 32) (eqb b 9) (is_digit b) (is_some (mark_of b)) (simp e at c)
    where
      go : (x y d m : Bool) → cond x Gap (cond y Gap (cond d Digit (cond m Mark Stray))) ≡ Letter → ⊥
      go true y d m q = cc
      go false true d m q = cc
      go false false true m q = cc
      go false false false true q = cc
      go false false false false q = cc

  -- what has a small letter is of the class of letters, and nothing else is
  pub letter_is : is_some (letter_of b) ≡ true → class_of b ≡ Letter
  unfolding letter_of
  letter_is h = go (is_letter b) refl h
    where
      go : (x : Bool) → is_letter b ≡ x → is_some (cond x (Some (lower_of b)) None) ≡ true → class_of b ≡ Letter
      go true e q = letter_class e
      go false e q = absurd (false≢true q)

  pub letter_not : is_some (letter_of b) ≡ false → class_of b ≡ Letter → ⊥
  unfolding letter_of
  letter_not h = go (is_letter b) refl h
    where
      go : (x : Bool) → is_letter b ≡ x → is_some (cond x (Some (lower_of b)) None) ≡ false → class_of b ≡ Letter → ⊥
      go true e q = absurd (false≢true (sym q))
      go false e q = other_class e

-- a letter that stands at a place
pub record There (s : List ℕ) (a c : ℕ) : Type 0 where
  pub within : a < length s
  pub class : class_of (get_or s a 0) ≡ Letter
  pub is : c ≡ lower_of (get_or s a 0)
  pub byte : c < 256

module _ (s : List ℕ) (a : ℕ) where
  pub letter_there : (c : ℕ) → letter_at s a ≡ Some c → There s a c
  unfolding letter_of
  letter_there c = go (ltb a (length s)) refl (is_letter (get_or s a 0)) refl
    where
      go : (x : Bool) → ltb a (length s) ≡ x → (y : Bool) → is_letter (get_or s a 0) ≡ y → cond x (cond y (Some (lower_of (get_or s a 0))) None) None ≡ Some c
          → There s a c
      go true e true f q =
          let b = get_or s a 0 in
          let most = leb→le (lower_of b) 122 (and_r (leb 97 (lower_of b)) (leb (lower_of b) 122) (true_T (is_letter b) f)) in
          let is : c ≡ lower_of b = cc in
          record { within = ltb-true a (length s) e; class = letter_class b f; is = is; byte = omega arith }
      go true e false f q = absurd cc
      go false e y f q = absurd cc

  pub letter_none : letter_at s a ≡ None → run Letter (drop a s) ≡ 0
  unfolding letter_of
  letter_none = go (ltb a (length s)) refl (is_letter (get_or s a 0)) refl
    where
      go : (x : Bool) → ltb a (length s) ≡ x → (y : Bool) → is_letter (get_or s a 0) ≡ y → cond x (cond y (Some (lower_of (get_or s a 0))) None) None ≡ None
          → run Letter (drop a s) ≡ 0
      go true e true f q = absurd cc
      go true e false f q = run_stop Letter s a (ltb-true a (length s) e) (other_class (get_or s a 0) f)
      go false e y f q = run_over Letter s a (ltb-false a (length s) e)

-- the run of letters at the front of a list, as a word
abbrev letters_of : List ℕ → List ℕ
letters_of l = folded (take (run Letter l) l)

word_is : (s : List ℕ) (a : ℕ) → word_from s a ≡ letters_of (drop a s)
word_is s a = let e : a + run Letter (drop a s) - a ≡ run Letter (drop a s) = omega arith in rw e

pub word_none : (s : List ℕ) (a : ℕ) → run Letter (drop a s) ≡ 0 → word_from s a ≡ []
word_none s a z = word_is s a ∙ rw z

pub word_step : (s : List ℕ) (a c : ℕ) → There s a c → word_from s a ≡ c ∷ word_from s (a + 1)
word_step s a c t =
    let h = t.within in
    word_is s a ∙ rw (run_step Letter s a h t.class, drop-cons s a 0 h, ← t.is, ← (add-one a), ← (word_is s (a + 1)))

word_length : (s : List ℕ) (a : ℕ) → length (word_from s a) ≡ run Letter (drop a s)
word_length s a =
    let l = drop a s in
    rw (word_is s a) (length-map (take (run Letter l) l) lower_of ∙ length-take-le (run Letter l) l (run_most Letter l))

-- a word of fewer than 8 letters has none in its tail
pub no_tail : (s : List ℕ) (a : ℕ) → run Letter (drop a s) < 8 → tail_of (word_from s a) ≡ 539893806
unfolding tail_of
no_tail s a h = ap (λ (w : List ℕ). bytes_from 0 (fixed 4 w)) (drop_of_length-le (word_from s a) {i = 8} (omega (arith, word_length s a)))

-- a word of letters is one of small letters
letters_small : (l : List ℕ) → T (small (letters_of l))
letters_small [] = tt
letters_small (b ∷ l) = go (is_letter b) refl (letters_small l)
  where
    go : (x : Bool) → is_letter b ≡ x → T (small (letters_of l)) → T (small (letters_of (b ∷ l)))
    go true e t = simp (letter_class b e) (and_i (is_letter b) (small (letters_of l)) (true_T (is_letter b) e) t)
    go false e t = simp (same_not (class_of b) Letter (other_class b e)) tt

pub word_small : (s : List ℕ) (a : ℕ) → T (small (word_from s a))
word_small s a = rw (word_is s a) (letters_small (drop a s))

-- the letters behind the first k
record Behind (l : List ℕ) (k : ℕ) : Type 0 where
  count : run Letter (drop k l) + k ≡ run Letter l
  letters : drop k (letters_of l) ≡ letters_of (drop k l)

behind : (k : ℕ) (l : List ℕ) → k ≤ run Letter l → Behind l k
behind zero l h = record { count = omega arith; letters = refl }
behind (suc k) [] h = absurd (not-suc-le-zero h)
behind (suc k) (b ∷ l) h = go (same_class (class_of b) Letter) refl h (behind k l)
  where
    go : (x : Bool) → same_class (class_of b) Letter ≡ x → suc k ≤ cond x (suc (run Letter l)) 0 → (k ≤ run Letter l → Behind l k)
        → Behind (b ∷ l) (suc k)
    go true e m f = let r = f (le_of_suc-le-suc m) in record { count = simp e (omega (arith, r.count)); letters = simp e r.letters }
    go false e m f = absurd (not-suc-le-zero m)

module _ (s : List ℕ) (a k : ℕ) (h : k ≤ run Letter (drop a s)) where
  pub run_behind : run Letter (drop (a + k) s) + k ≡ run Letter (drop a s)
  run_behind = rw (← (drop-drop k a s)) (behind k (drop a s) h).count

  pub word_behind : drop k (word_from s a) ≡ word_from s (a + k)
  word_behind = rw (word_is s a, word_is s (a + k), ← (drop-drop k a s)) (behind k (drop a s) h).letters
