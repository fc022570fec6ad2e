-- A number's value and the lexemes that it takes do not depend on how many digits the runs had. The laws serve `simp`, which computes that
-- a code is a word's, below NUM. That `plain_of` keeps the length is `length-map` of lib.ListN.
use Rattle.std.specs.Prelude.{Some, None, Ok, Err}
use mathlib.Core.Path.{◌≡◌, refl, sym, ap, ◌∙◌}
use mathlib.Core.Bool.{Bool, true, false, cond, and-false}
use mathlib.Core.List.{List, [], ◌∷◌}
use Prim.Native.Nat.{ℕ, zero, suc, ◌+◌, ◌≤◌, ◌<◌}
use native.Mathlib.Omega.{arith}
use lib.Dec.{leb, ltb, eqb}
use lib.ListN.{length, drop, length-map, get_or-map}
use borrow.Author.Tests.{leb-true, leb-false, ltb-true, le-leb, lt-leb, ne_eqb}
use Rattle.lexer.specs.Lexemes.{Dash, And, NUM, value_of}
use Rattle.lexer.specs.declared.reading.Reading.{Reading}
use Rattle.lexer.specs.declared.reading.Reading.TheVariants.{First, Second}
use Rattle.numbers.specs.declared.Number.{Number}
use Rattle.numbers.specs.Slices.{get, is_at, within, one_if}
use Rattle.numbers.specs.Again.{turns, again}
use Rattle.numbers.specs.Answers.{NumberFound, number, pick, or_else, and_then, or_zero}
use Rattle.numbers.specs.Numbers.{is_ending, word_of, literal_of, literal_tokens, ones_of, teens_of, tens_of, tens_ones_of}
use Rattle.numbers.specs.Numbers.{num_double_of, sum_of, tail_of, hundreds_of, num_triple_of, num_triple_unit_of, units_of, num_step, num_of}
use Rattle.numbers.specs.Written.{plain, plain_of, unwritten}
use Rattle.numbers.proofs.NumberAnswers.{then_same}
use Rattle.numbers.proofs.NumberBounds.{tens_taken}

-- what holds of either side of a test for a literal
chosen : (P : ℕ → Type 0) (x : ℕ) (b : Bool) → leb NUM x ≡ b → (x < NUM → P x) → (NUM ≤ x → P (NUM + value_of x)) → P (cond b (NUM + value_of x) x)
chosen P x true e word literal = literal (leb-true NUM x e)
chosen P x false e word literal = word (leb-false NUM x e)

-- what holds of a word, and of a literal as if of one digit, holds of the plain lexeme
pub plain_cases : (P : ℕ → Type 0) (x : ℕ) → (x < NUM → P x) → (NUM ≤ x → P (NUM + value_of x)) → P (plain x)
unfolding plain
plain_cases P x word literal = chosen P x (leb NUM x) refl word literal

-- what is the same of all literals depends on no digits
pub same_plain : {B : Type 0} (f : ℕ → B) (d : B) → ((y : ℕ) → NUM ≤ y → f y ≡ d) → (x : ℕ) → f (plain x) ≡ f x
same_plain f d same x = plain_cases (λ y. f y ≡ f x) x (λ h. refl) (λ h. same (NUM + value_of x) (omega arith) ∙ sym (same x h))

-- a literal stays one, and nothing else becomes one
pub is_literal_plain : (x : ℕ) → leb NUM (plain x) ≡ leb NUM x
is_literal_plain x = same_plain (leb NUM) true (le-leb NUM) x

-- its value stays
pub value_plain : (x : ℕ) → value_of (plain x) ≡ value_of x
value_plain x = plain_cases (λ y. value_of y ≡ value_of x) x (λ h. refl) (λ h. omega arith)

-- a literal is no word
pub not-word : (y k : ℕ) → ltb k NUM ≡ true → NUM ≤ y → eqb y k ≡ false
not-word y k h a = let w = ltb-true k NUM h in ne_eqb y k (λ e. omega arith)

-- a literal is in no range of words
pub not_within : (lo y hi : ℕ) → ltb hi NUM ≡ true → NUM ≤ y → within lo y hi ≡ false
unfolding within
not_within lo y hi h a = let w = ltb-true hi NUM h in rw (lt-leb y hi (omega arith)) (and-false (leb lo y))

-- a test for a word
pub eqb-plain : (x k : ℕ) → ltb k NUM ≡ true → eqb (plain x) k ≡ eqb x k
eqb-plain x k h = same_plain (λ y. eqb y k) false (λ y. not-word y k h) x

-- the lexeme at a place
pub get_plain : (l : List ℕ) (i : ℕ) → get (plain_of l) i ≡ plain (get l i)
unfolding get plain
get_plain l i = get_or-map plain l i 0

-- a test for a word at a place
pub at_plain : (l : List ℕ) (i k : ℕ) → ltb k NUM ≡ true → is_at (plain_of l) i k ≡ is_at l i k
unfolding is_at get
at_plain l i k h = rw (length-map l plain, get_plain l i, eqb-plain (get l i) k h)

-- the lexemes from a place on
pub drop-plain : (t : ℕ) (l : List ℕ) → drop t (plain_of l) ≡ plain_of (drop t l)
drop-plain zero l = refl
drop-plain (suc t) [] = refl
drop-plain (suc t) (x ∷ xs) = drop-plain t xs

module _ {A : Type 0} (nothing : A) (step : (List ℕ → A) → List ℕ → A) (R : A → A → Type 0) (none : R nothing nothing)
    (kept : (D : List ℕ → A) → ((m : List ℕ) → R (D (plain_of m)) (D m)) → (l : List ℕ) → R (step D (plain_of l)) (step D l)) where
  turns_plain : (n : ℕ) (l : List ℕ) → R (turns nothing step n (plain_of l)) (turns nothing step n l)
  unfolding turns
  turns_plain zero l = none
  turns_plain (suc n) l = kept (turns nothing step n) (turns_plain n) l

  -- what a step keeps between the answers to plain lexemes and to those that were written, a reader that calls itself keeps
  pub again_plain : (l : List ℕ) → R (again nothing step (plain_of l)) (again nothing step l)
  unfolding again
  again_plain l = rw (length-map l plain) (turns_plain (suc (length l)) l)

-- a number reader of which nothing but its answer's digits depends on the runs' digits
abbrev pub Alike : (List ℕ → NumberFound) → Type 0
Alike R = (l : List ℕ) → unwritten (R (plain_of l)) ≡ unwritten (R l)

module _ {B : Type 0} (f : NumberFound → B) (unread : (a : Number) → f (Ok (Some a)) ≡ f (number a.value a.taken)) where
  without : (w : NumberFound) → f w ≡ f (unwritten w)
  without (Ok (Some a)) = unread a
  without (Ok None) = refl
  without (Err e) = refl

  -- what does not read the digits of its answer depends on none
  pub unread_plain : (R : List ℕ → NumberFound) → Alike R → (l : List ℕ) → f (R (plain_of l)) ≡ f (R l)
  unread_plain R alike l = without (R (plain_of l)) ∙ ap f (alike l) ∙ sym (without (R l))

-- the digits are set aside behind a test
unwritten_pick : (b : Bool) (v w : NumberFound) → unwritten (pick b v w) ≡ pick b (unwritten v) (unwritten w)
unwritten_pick true v w = refl
unwritten_pick false v w = refl

-- the digits are set aside in each alternative
unwritten_or : (v w : NumberFound) → unwritten (or_else v w) ≡ or_else (unwritten v) (unwritten w)
unwritten_or (Ok (Some a)) w = refl
unwritten_or (Ok None) w = refl
unwritten_or (Err e) w = refl

-- a test for an ending
ending_plain : (x : ℕ) → is_ending (plain x) ≡ is_ending x
unfolding is_ending
ending_plain x = simp eqb-plain

-- a number word has no digits
word_plain : (l : List ℕ) (lo hi t : ℕ) → ltb hi NUM ≡ true → word_of (plain_of l) lo hi t ≡ word_of l lo hi t
unfolding word_of
word_plain l lo hi t h =
    rw (get_plain l 0)
    (same_plain (λ y. pick (within lo y hi) (number y t) (Ok None)) (Ok None) (λ y a. rw (not_within lo y hi h a)) (get l 0))

-- each reader in turn: those whose answer is no single run are the same, and the others alike
literal_plain : (l : List ℕ) (lo hi t : ℕ) → unwritten (literal_of (plain_of l) lo hi t) ≡ unwritten (literal_of l lo hi t)
unfolding literal_of
literal_plain l lo hi t = simp (get_plain, is_literal_plain, value_plain, unwritten_pick)

ones_plain : Alike ones_of
unfolding ones_of
ones_plain l = simp (get_plain, ending_plain, unwritten_or, word_plain, literal_plain)

-- the lexemes of a literal
tokens_plain : (reading : Reading) (l : List ℕ) (t : ℕ) → literal_tokens reading (plain_of l) t ≡ literal_tokens reading l t
tokens_plain First l t = refl
tokens_plain Second l t = simp (get_plain, ending_plain)

teens_plain : (reading : Reading) → Alike (teens_of reading)
unfolding teens_of
teens_plain reading l = simp (at_plain, unwritten_or, word_plain, tokens_plain, literal_plain)

tens_plain : (l : List ℕ) → tens_of (plain_of l) ≡ tens_of l
unfolding tens_of
tens_plain l = simp (at_plain, word_plain)

tens_ones_plain : (l : List ℕ) → tens_ones_of (plain_of l) ≡ tens_ones_of l
unfolding tens_ones_of
tens_ones_plain l =
    simp (tens_plain, at_plain, drop-plain)
    (then_same (tens_of l) _ _ (tens_taken l) (λ n a b d.
    let tokens = n.taken + one_if (is_at l n.taken Dash) in
    unread_plain (λ w. and_then (or_zero w) (λ m. number (n.value + m.value) (tokens + m.taken))) (λ m. refl) ones_of ones_plain (drop tokens l)))

double_plain : (reading : Reading) → Alike (num_double_of reading)
unfolding num_double_of
double_plain reading l = simp (unwritten_or, tens_ones_plain, teens_plain, ones_plain, tokens_plain, literal_plain)

tail_plain : (N : List ℕ → NumberFound) → Alike N → (l : List ℕ) (head t : ℕ) → tail_of N (plain_of l) head t ≡ tail_of N l head t
unfolding tail_of sum_of
tail_plain N alike l head t =
    let required = is_at l t And in
    let tokens = t + one_if required in
    simp (at_plain, drop-plain) (unread_plain (sum_of required head tokens) (λ a. refl) N alike (drop tokens l))

hundreds_plain : (reading : Reading) (l : List ℕ) (ones : NumberFound) → hundreds_of reading (plain_of l) ones ≡ hundreds_of reading l ones
unfolding hundreds_of
hundreds_plain reading l ones = simp (at_plain, tail_plain (num_double_of reading) (double_plain reading))

hundreds_unread : (reading : Reading) (l : List ℕ) → hundreds_of reading l (ones_of (plain_of l)) ≡ hundreds_of reading l (ones_of l)
unfolding hundreds_of
hundreds_unread reading l = unread_plain (hundreds_of reading l) (λ a. refl) ones_of ones_plain l

triple_plain : (reading : Reading) → Alike (num_triple_of reading)
unfolding num_triple_of
triple_plain reading l = simp (unwritten_or, hundreds_plain, hundreds_unread, double_plain, get_plain, ending_plain, literal_plain)

unit_plain : (l : List ℕ) → num_triple_unit_of (plain_of l) ≡ num_triple_unit_of l
unfolding num_triple_unit_of
unit_plain l = simp at_plain

module _ (N : List ℕ → NumberFound) (alike : Alike N) (l : List ℕ) where
  units_plain : (triple : NumberFound) → units_of N (plain_of l) triple ≡ units_of N l triple
  unfolding units_of
  units_plain triple = simp (drop-plain, unit_plain, tail_plain N alike)

  units_unread : (reading : Reading) → units_of N l (num_triple_of reading (plain_of l)) ≡ units_of N l (num_triple_of reading l)
  unfolding units_of
  units_unread reading = unread_plain (units_of N l) (λ a. refl) (num_triple_of reading) (triple_plain reading) l

  step_plain : (reading : Reading) → unwritten (num_step reading N (plain_of l)) ≡ unwritten (num_step reading N l)
  unfolding num_step
  step_plain reading = simp (unwritten_or, units_plain, units_unread, triple_plain, tokens_plain, literal_plain)

-- a number's value and the lexemes that it takes do not depend on the runs' digits
pub num_plain : (reading : Reading) → Alike (num_of reading)
unfolding num_of
num_plain reading l =
    again_plain (Ok None) (num_step reading) (λ v w. unwritten v ≡ unwritten w) refl (λ N alike m. step_plain N alike m reading) l

-- nor does what reads only those of it: `num_unread parsed_number (λ a. refl)`
pub num_unread : {B : Type 0} (f : NumberFound → B) → ((a : Number) → f (Ok (Some a)) ≡ f (number a.value a.taken))
    → (reading : Reading) (l : List ℕ) → f (num_of reading (plain_of l)) ≡ f (num_of reading l)
num_unread f unread reading l = unread_plain f unread (num_of reading) (num_plain reading) l
