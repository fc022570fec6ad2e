-- Where the lexemes and the refused part stand in a phrase, and which refusals there are. Assumes nothing.
use mathlib.Core.Path.{◌≡◌, refl, sym}
use mathlib.Core.Bool.{Bool, true, false, cond}
use mathlib.Core.List.{List, [], ◌∷◌}
use Prim.Native.Nat.{ℕ, zero, suc, ◌+◌, ◌*◌, ◌-◌, ◌≤◌, ◌<◌, min, zero-le, suc-le-suc}
use native.Mathlib.Nat.{not-suc-le-zero, le_of_suc-le-suc}
use native.Mathlib.Omega.{arith}
use lib.Dec.{leb, ltb}
use borrow.Author.Tests.{le-leb, lt-leb, leb-true, ltb-true}
use lib.ListN.{length, get_or}
use lib.Seq.{sets}
use Rattle.lexer.specs.Words.{Word, meaning, folded}
use Rattle.lexer.specs.Lexemes.{NUM}
use Rattle.lexer.specs.Classes.{Gap, Letter, Digit, Mark, Stray, class_of, mark_of}
use Rattle.refusals.specs.declared.Reason.TheVariants as refusal
use Rattle.refusals.specs.Answers.{refusal_at, refuse, between}
use Rattle.refusals.proofs.Holds.{Holds, of_given, of_refusal, Bounded, then_holds}
use Rattle.lexer.specs.Lex.{run_end, said_digits, number_from, token, of_code, of_number, word_at, number_at, token_of, found, token_from, token_at}
use Rattle.lexer.specs.Lex.{Item, item, Lexed, ahead, if_taken, lex_from, lexed, if_lexeme, front_from, front, codes_of, starts_of, ended_of, Placed}
use Rattle.std.specs.Prelude.{Option, Some, None, Result, Ok, Err}
use Rattle.refusals.specs.declared.Refusal.{Refusal}
use Rattle.lexer.specs.declared.class.Class.{Class}
use Rattle.lexer.specs.declared.lex.Token.{Token}
use Rattle.lexer.proofs.Runs.{run_within}
use Rattle.lexer.proofs.Lines.{Settled}

-- the bytes from a up to e begin and end within the first n
record Part (a e n : ℕ) : Type 0 where
  start_below : a < n
  start_end : a ≤ e
  end_most : e ≤ n

-- a token's bytes are such a part, and a refused one has a number of 1 to 4
abbrev Begun : ℕ → Result Token Refusal → Type 0
Begun n (Ok t) = Part t.start t.end n
Begun n (Err r) = Bounded 1 4 n r

-- what is found is so too, and at the end nothing is
abbrev Within : ℕ → Result (Option Token) Refusal → Type 0
Within n (Ok None) = Unit {0}
Within n (Ok (Some t)) = Part t.start t.end n
Within n (Err r) = Bounded 1 4 n r

within_found : (n : ℕ) (w : Result Token Refusal) → Begun n w → Within n (found w)
within_found n (Ok t) p = p
within_found n (Err r) p = p

within_code : (f : Option ℕ) (a e n : ℕ) → Part a e n → Begun n (of_code f a e)
within_code (Some l) a e n p = p
within_code None a e n p = omega arith

within_number : (v a e n : ℕ) → Part a e n → Begun n (of_number v a e)
within_number v a e n p = go (leb v 4294967295)
  where
    go : (b : Bool) → Begun n (cond b (Ok (token (NUM * said_digits (e - a) + v) a e)) (Err (refusal_at refusal.LargeDigits a e)))
    go true = p
    go false = omega arith

-- whatever begins at a byte of the phrase
module _ (ws : List Word) (s : List ℕ) (a : ℕ) (h : a < length s) where
  run_part : (k : Class) → Part a (run_end k s a) (length s)
  run_part k = record { start_below = h; start_end = omega arith; end_most = run_within k s a (omega arith) }

  byte_part : Part a (a + 1) (length s)
  byte_part = record { start_below = h; start_end = omega arith; end_most = omega arith }

  word_within : Begun (length s) (word_at ws s a)
  unfolding word_at
  word_within = within_code (meaning ws (folded (between s a (run_end Letter s a)))) a (run_end Letter s a) (length s) (run_part Letter)

  number_within : Begun (length s) (number_at s a)
  unfolding number_at
  number_within = within_number (number_from s a) a (run_end Digit s a) (length s) (run_part Digit)

  token_of_within : (k : Class) → Begun (length s) (token_of ws k s a)
  token_of_within Letter = word_within
  token_of_within Digit = number_within
  token_of_within Mark = within_code (mark_of (get_or s a 0)) a (a + 1) (length s) byte_part
  token_of_within Gap = within_code None a (a + 1) (length s) byte_part
  token_of_within Stray = within_code None a (a + 1) (length s) byte_part

token_within : (ws : List Word) (s : List ℕ) (at : ℕ) → Within (length s) (token_at ws s at)
unfolding token_at
token_within ws s at = go (ltb (run_end Gap s at) (length s)) refl
  where
    go : (b : Bool) → ltb (run_end Gap s at) (length s) ≡ b → Within (length s) (token_from ws s (run_end Gap s at))
    go true e =
        let a = run_end Gap s at in
        simp e (within_found (length s) (token_of ws (class_of (get_or s a 0)) s a) (token_of_within ws s a (ltb-true a (length s) e) (class_of (get_or s a 0))))
    go false e = simp e tt

-- a lexeme begins within the phrase
pub taken_below : (ws : List Word) (s : List ℕ) (at : ℕ) (t : Token) → token_at ws s at ≡ Ok (Some t) → t.start < length s
taken_below ws s at t h = (rw h at (token_within ws s at)).start_below

-- each lexeme begins within the first n bytes
abbrev Below : ℕ → List Item → Type 0
Below n [] = Unit {0}
Below n (i ∷ l) = (i.start < n) × Below n l

-- at most so many lexemes, all of them within the first n bytes
abbrev Few : ℕ → ℕ → List Item → Type 0
Few room n l = (length l ≤ room) × Below n l

few_token : (ws : List Word) (room : ℕ) (s : List ℕ) (t : Result (Option Token) Refusal) → Within (length s) t
    → ((at : ℕ) → Few room (length s) (front_from ws room s at))
    → Few (suc room) (length s) (if_lexeme t (λ k a e. item k a ∷ front_from ws room s e))
few_token ws room s (Ok None) p h = (zero-le, tt)
few_token ws room s (Err r) p h = (zero-le, tt)
few_token ws room s (Ok (Some t)) p h = (suc-le-suc (h t.end).0, (p.start_below, (h t.end).1))

few_from : (ws : List Word) (room : ℕ) (s : List ℕ) (at : ℕ) → Few room (length s) (front_from ws room s at)
few_from ws zero s at = (zero-le, tt)
few_from ws (suc room) s at = few_token ws room s (token_at ws s at) (token_within ws s at) (few_from ws room s)

few : (ws : List Word) (s : List ℕ) → Few 64 (length s) (front ws s)
unfolding front
few ws s = go (leb (length s) 256)
  where
    go : (b : Bool) → Few 64 (length s) (cond b (front_from ws 64 s 0) [])
    go true = few_from ws 64 s 0
    go false = (zero-le, tt)

below_at : (n : ℕ) (l : List Item) → Below n l → (k : ℕ) → k < length l → get_or (starts_of l) k 0 < n
below_at n [] b k h = absurd (not-suc-le-zero h)
below_at n (i ∷ l) b zero h = b.0
below_at n (i ∷ l) b (suc k) h = below_at n l b.1 k (le_of_suc-le-suc h)

-- each lexeme in front begins within the phrase
pub start_below : (ws : List Word) (s : List ℕ) (k : ℕ) → k < length (front ws s) → get_or (starts_of (front ws s)) k 0 < length s
start_below ws s k h = below_at (length s) (front ws s) (few ws s).1 k h

-- at most so many lexemes; or a refusal of 1 to 4, whose part stands within n bytes
abbrev Fits : ℕ → ℕ → Lexed → Type 0
Fits room n w = Holds (λ l. length l ≤ room) (Bounded 1 4 n) w

fits_token : (room n : ℕ) (t : Result (Option Token) Refusal) (g : ℕ → ℕ → ℕ → Lexed) → Within n t → ((k a e : ℕ) → Part a e n → Fits room n (g k a e))
    → Fits room n (if_taken t g)
fits_token room n (Ok None) g p h = of_given zero-le
fits_token room n (Ok (Some t)) g p h = h t.code t.start t.end p
fits_token room n (Err r) g p h = of_refusal p

fits_from : (ws : List Word) (room : ℕ) (s : List ℕ) (at : ℕ) → Fits room (length s) (lex_from ws room s at)
fits_from ws zero s at =
    fits_token 0 (length s) (token_at ws s at) (λ k a e. refuse refusal.TooMany a e) (token_within ws s at) (λ k a e p. of_refusal (omega arith))
fits_from ws (suc room) s at =
    fits_token (suc room) (length s) (token_at ws s at) (λ k a e. ahead (item k a ∷ []) (lex_from ws room s e)) (token_within ws s at)
    (λ k a e p. then_holds _ (fits_from ws room s e) (λ l few. of_given (suc-le-suc few)))

-- of a phrase that is lexed whole: at most 256 bytes and 64 lexemes
pub record Whole (s : List ℕ) (l : List Item) : Type 0 where
  pub bytes : length s ≤ 256
  pub lexemes : length l ≤ 64

-- lexing refuses 1 to 4, with a part within the phrase and the 256 bytes that it may have
pub lexed_holds : (ws : List Word) (s : List ℕ) → Holds (Whole s) (Bounded 1 4 (min (length s) 256)) (lexed ws s)
unfolding lexed
lexed_holds ws s = go (leb (length s) 256) refl
  where
    short : {w : Lexed} → length s ≤ 256 → Fits 64 (length s) w → Holds (Whole s) (Bounded 1 4 (min (length s) 256)) w
    short h (of_given most) = of_given (record { bytes = h; lexemes = most })
    short h (of_refusal {r} part) = of_refusal {r = r} (omega arith)

    go : (b : Bool) → leb (length s) 256 ≡ b →
        Holds (Whole s) (Bounded 1 4 (min (length s) 256)) (cond b (lex_from ws 64 s 0) (refuse refusal.TooLong 0 0))
    go true e = short (leb-true (length s) 256 e) (fits_from ws 64 s 0)
    go false e = of_refusal {r = refusal_at refusal.TooLong 0 0} (omega arith)

-- an answer that is the right one stands where its bounds say
pub placed : (ws : List Word) (s : List ℕ) {r : Result ℕ Refusal} → r ≡ ended_of (lexed ws s) → Placed (length s) r
placed ws s e = rw e (go (lexed_holds ws s))
  where
    go : {w : Lexed} → Holds (Whole s) (Bounded 1 4 (min (length s) 256)) w → Placed (length s) (ended_of w)
    go (of_given h) = h.lexemes
    go (of_refusal part) = (part.start, omega (arith, part.within))

-- what lexing promises of an answer and of the arrays that it leaves
pub record Answered (ws : List Word) (s codes₀ starts₀ codes starts : List ℕ) (r : Result ℕ Refusal) : Type 0 where
  pub value : r ≡ ended_of (lexed ws s)
  pub codes_are : codes ≡ sets codes₀ 0 (codes_of (front ws s))
  pub starts_are : starts ≡ sets starts₀ 0 (starts_of (front ws s))
  pub bounds : Placed (length s) r

module _ (ws : List Word) (s codes₀ starts₀ : List ℕ) where
  -- of a phrase that is not too long, read from its first byte on
  pub answered : {codes starts : List ℕ} {r : Result ℕ Refusal} → length s ≤ 256 → Settled ws s codes₀ starts₀ codes starts r
      → Answered ws s codes₀ starts₀ codes starts r
  unfolding lexed front
  answered {r = r} few h =
      let short = le-leb (length s) 256 few in
      let right : r ≡ ended_of (lexed ws s) = simp short h.value in
      record { value = right; codes_are = simp short h.codes_are; starts_are = simp short h.starts_are; bounds = placed ws s right }

  -- of one that is too long
  pub answered_long : 256 < length s → Answered ws s codes₀ starts₀ codes₀ starts₀ (Err (refusal_at refusal.TooLong 0 0))
  unfolding lexed front
  answered_long many =
      let long = lt-leb (length s) 256 many in
      let right : Err (refusal_at refusal.TooLong 0 0) ≡ ended_of (lexed ws s) = sym (simp long refl) in
      record { value = right; codes_are = simp long refl; starts_are = simp long refl; bounds = placed ws s right }
