-- How a number was written: the digits that a lexeme's code says are those of the run where it begins, from the phrase's bytes on. A word or
-- mark says none, and none stand there. Assumes nothing.
use mathlib.Core.Path.{◌≡◌, refl}
use mathlib.Core.Bool.{Bool, true, false, ◌&&◌, cond, and-eq-true_iff}
use mathlib.Core.List.{List, [], ◌∷◌}
use Prim.Native.Nat.{ℕ, zero, suc, ◌+◌, ◌*◌, ◌-◌, ◌≤◌, ◌<◌}
use native.Mathlib.Omega.{arith}
use lib.Dec.{eqb, leb, ltb}
use lib.ListN.{length, get_or, drop}
use borrow.Author.Tests.{leb-true, ltb-true}
use Rattle.refusals.specs.declared.Reason.TheVariants as refusal
use Rattle.refusals.specs.Answers.{refusal_at}
use Rattle.lexer.specs.Lexemes.{Comma, Colon, Slash, Dash, Dot, NUM, digits_of}
use Rattle.lexer.specs.Words.{Word, ordered, is_same, meaning}
use Rattle.lexer.specs.Keywords.{keywords, words_in}
use Rattle.lexer.specs.Classes.{Gap, Letter, Digit, Mark, Stray, class_of, mark_of}
use Rattle.lexer.specs.Lex.{run, run_end, token, said_digits, of_code, word_from, word_at, number_from, number_at, token_of, found, token_at}
use Rattle.lexer.specs.Lex.{Item, item, if_lexeme, front_from, front}
use Rattle.std.specs.Prelude.{Option, Some, None, Result, Ok, Err}
use Rattle.refusals.specs.declared.Refusal.{Refusal}
use Rattle.lexer.specs.declared.class.Class.{Class}
use Rattle.lexer.specs.declared.lex.Token.{Token}
use Rattle.lexer.specs.declared.reading.Reading.{Reading}
use Rattle.lexer.specs.declared.reading.Reading.TheVariants.{First, Second}
use Rattle.lexer.proofs.Runs.{run_stop, run_within}

-- no word of a list gives a literal
abbrev no_literals : List Word → Bool
no_literals [] = true
no_literals (x ∷ xs) = ltb x.lexeme NUM && no_literals xs

-- no word of either reading does
words_are_words : (reading : Reading) → no_literals (words_in reading) ≡ true
unfolding keywords words_in
words_are_words First = refl
words_are_words Second = refl

-- what a word means is no literal
abbrev pub NoLiteral : Option ℕ → Type 0
NoLiteral (Some l) = l < NUM
NoLiteral None = Unit {0}

no_literal : (ws : List Word) → no_literals ws ≡ true → (w : List ℕ) → NoLiteral (meaning ws w)
no_literal [] h w = tt
no_literal (x ∷ xs) h w =
    let both = (and-eq-true_iff (ltb x.lexeme NUM) (no_literals xs)).0 h in
    go (is_same (ordered x.spelling w)) (ltb-true x.lexeme NUM both.0) (no_literal xs both.1 w)
  where
    go : (b : Bool) → x.lexeme < NUM → NoLiteral (meaning xs w) → NoLiteral (cond b (Some x.lexeme) (meaning xs w))
    go true here on = here
    go false here on = on

-- what any word means in either reading is none: its code is below every literal's
pub word_below : (reading : Reading) (w : List ℕ) → NoLiteral (meaning (words_in reading) w)
word_below reading = no_literal (words_in reading) (words_are_words reading)

-- a mark's code is no literal
mark_below : (b : ℕ) → NoLiteral (mark_of b)
unfolding mark_of
mark_below b = go (eqb b 44) (eqb b 58) (eqb b 47) (eqb b 45) (eqb b 46)
  where
    go : (c d e f g : Bool) → NoLiteral (cond c (Some Comma) (cond d (Some Colon) (cond e (Some Slash) (cond f (Some Dash) (cond g (Some Dot) None)))))
    go true d e f g = omega arith
    go false true e f g = omega arith
    go false false true f g = omega arith
    go false false false true g = omega arith
    go false false false false true = omega arith
    go false false false false false = tt

-- a lexeme's code says how many digits stand where it begins
abbrev Tells : List ℕ → Result Token Refusal → Type 0
Tells s (Ok t) = digits_of t.code ≡ run Digit (drop t.start s)
Tells s (Err r) = Unit {0}

-- and so does that of what is found
abbrev Says : List ℕ → Result (Option Token) Refusal → Type 0
Says s (Ok None) = Unit {0}
Says s (Ok (Some t)) = digits_of t.code ≡ run Digit (drop t.start s)
Says s (Err r) = Unit {0}

says_found : (s : List ℕ) (w : Result Token Refusal) → Tells s w → Says s (found w)
says_found s (Ok t) h = h
says_found s (Err r) h = tt

says_code : (f : Option ℕ) (s : List ℕ) (a e : ℕ) → NoLiteral f → run Digit (drop a s) ≡ 0 → Tells s (of_code f a e)
says_code (Some l) s a e h none = omega arith
says_code None s a e h none = tt

-- what begins at a byte of a phrase that is read
module _ (ws : List Word) (plain : no_literals ws ≡ true) (s : List ℕ) (a : ℕ) (h : a < length s) (most : length s ≤ 256) where
  says_number : Tells s (number_at s a)
  unfolding number_at
  says_number = go (leb (number_from s a) 4294967295) refl
    where
      go : (b : Bool) → leb (number_from s a) 4294967295 ≡ b
          → Tells s (cond b (Ok (token (NUM * said_digits (run_end Digit s a - a) + number_from s a) a (run_end Digit s a))) (Err (refusal_at refusal.LargeDigits a (run_end Digit s a))))
      go true e = omega (arith, leb-true (number_from s a) 4294967295 e, run_within Digit s a (omega arith))
      go false e = tt

  -- with another class than that of digits no run of them begins there
  no_run : (k : Class) → class_of (get_or s a 0) ≡ k → (k ≡ Digit → ⊥) → run Digit (drop a s) ≡ 0
  no_run k c n = run_stop Digit s a h (λ e. n (rw c at e))

  says_token : (k : Class) → class_of (get_or s a 0) ≡ k → Tells s (token_of ws k s a)
  unfolding word_at
  says_token Letter c =
      says_code (meaning ws (word_from s a)) s a (run_end Letter s a) (no_literal ws plain (word_from s a)) (no_run Letter c (λ e. cc))
  says_token Digit c = says_number
  says_token Mark c = says_code (mark_of (get_or s a 0)) s a (a + 1) (mark_below (get_or s a 0)) (no_run Mark c (λ e. cc))
  says_token Gap c = tt
  says_token Stray c = tt

-- each lexeme's code says how many digits stand where it begins
abbrev pub Said : List ℕ → List Item → Type 0
Said s [] = Unit {0}
Said s (i ∷ l) = (digits_of i.code ≡ run Digit (drop i.start s)) × Said s l

-- the lexemes of a phrase of at most 256 bytes
module _ (ws : List Word) (plain : no_literals ws ≡ true) (s : List ℕ) (most : length s ≤ 256) where
  says_at : (at : ℕ) → Says s (token_at ws s at)
  unfolding token_at
  says_at at = go (ltb (run_end Gap s at) (length s)) refl
    where
      go : (b : Bool) → ltb (run_end Gap s at) (length s) ≡ b → Says s (token_at ws s at)
      go true e = let a = run_end Gap s at in simp e (says_found s (token_of ws (class_of (get_or s a 0)) s a) (says_token ws plain s a (ltb-true a (length s) e) most (class_of (get_or s a 0)) refl))
      go false e = simp e tt

  said_token : (room : ℕ) (t : Result (Option Token) Refusal) → Says s t → ((at : ℕ) → Said s (front_from ws room s at))
      → Said s (if_lexeme t (λ k a e. item k a ∷ front_from ws room s e))
  said_token room (Ok None) p on = tt
  said_token room (Err r) p on = tt
  said_token room (Ok (Some t)) p on = (p, on t.end)

  said_from : (room at : ℕ) → Said s (front_from ws room s at)
  said_from zero at = tt
  said_from (suc room) at = said_token room (token_at ws s at) (says_at at) (said_from room)

-- "the digits said are the length of the run in the phrase"
pub digits_said : (reading : Reading) (s : List ℕ) → Said s (front (words_in reading) s)
unfolding front
digits_said reading s = go (leb (length s) 256) refl
  where
    go : (b : Bool) → leb (length s) 256 ≡ b → Said s (cond b (front_from (words_in reading) 64 s 0) [])
    go true e = said_from (words_in reading) (words_are_words reading) s (leb-true (length s) 256 e) 64 0
    go false e = tt
