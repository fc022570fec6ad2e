-- Pieces of a phrase: what stands in front of a rest is lexed, and lexing goes on with the rest, by any word list and so in either reading.
-- Assumes nothing.
use mathlib.Core.Path.{◌≡◌, refl, sym, ap, ◌∙◌}
use mathlib.Core.Bool.{Bool, true, false, cond}
use mathlib.Core.List.{List, [], ◌∷◌, ◌++◌}
use Prim.Native.Nat.{ℕ, zero, suc, ◌+◌, ◌*◌, ◌-◌, ◌/◌, ◌^◌, ◌≤◌, ◌<◌}
use native.Mathlib.Nat.{not-suc-le-zero}
use native.Mathlib.Omega.{arith}
use lib.ListN.{length, get_or, drop, length-drop, length-append}
use lib.Seq.{drop-drop, get_or-drop, take_at, drop_at}
use borrow.Author.Tests.{lt-ltb, le-ltb, le-leb}
use Rattle.digits.specs.Digits.{value_from, digit_of, digits_of}
use Rattle.digits.proofs.Says.{digits_say, digit_is}
use Rattle.digits.proofs.Widths.{digits_length}
use Rattle.refusals.specs.Answers.{given, between}
use Rattle.lexer.specs.Lexemes.{NUM}
use Rattle.lexer.specs.Words.{Word, meaning, folded}
use Rattle.lexer.specs.Classes.{Gap, Letter, Digit, Mark, class_of, mark_of, same_class}
use Rattle.lexer.specs.Lex.{run, run_end, token, said_digits, word_at, number_at, token_of, found, token_at, Item, item, ahead, lex_from, lexed}
use Rattle.std.specs.Prelude.{Some, None, Ok}
use Rattle.lexer.specs.declared.class.Class.{Class}
use Rattle.lexer.proofs.Runs.{same_self, same_only, same_not, run_most, digit_class}
use Rattle.lexer.proofs.Lines.{lex_finish, lex_taken}

-- all bytes of w are of class k
pub record All (k : Class) (w : List ℕ) : Type 0 where
  pub full : run k w ≡ length w

-- the first byte of such bytes, and the others
all_first : (k : Class) (b : ℕ) (w : List ℕ) → All k (b ∷ w) → (class_of b ≡ k) × All k w
all_first k b w h =
    let c = go (same_class (class_of b) k) (run_most k w) h.full in
    (same_only (class_of b) k c.0, record { full = c.1 })
  where
    go : (t : Bool) → run k w ≤ length w → cond t (suc (run k w)) 0 ≡ suc (length w) → (t ≡ true) × (run k w ≡ length w)
    go true m e = (refl, omega arith)
    go false m e = absurd (omega arith)

-- a run goes on behind them
run_on : (k : Class) (w r : List ℕ) → All k w → run k (w ++ r) ≡ length w + run k r
run_on k [] r h = omega arith
run_on k (b ∷ w) r h =
    let c = all_first k b w h in
    let rest : run k (w ++ r) ≡ length w + run k r = run_on k w r c.1 in
    rw (c.0, same_self k) (omega arith)

all_append : (k : Class) (w v : List ℕ) → All k w → All k v → All k (w ++ v)
all_append k w v h g = record { full = omega (arith, run_on k w v h, length-append w v, g.full) }

-- digits as they are written are digits
digits_all : (k n : ℕ) → All Digit (digits_of k n)
digits_all zero n = record { full = refl }
digits_all (suc k) n =
    all_append Digit (digits_of k (n / 10)) (digit_of n ∷ []) (digits_all k (n / 10))
    (record { full = rw (digit_class (digit_of n) (digit_is n)) })

-- a rest of a phrase, which begins at a place
module _ (s : List ℕ) (at : ℕ) where
  -- what is behind its first bytes
  dropped : (w r : List ℕ) → drop at s ≡ w ++ r → drop (at + length w) s ≡ r
  dropped w r e = sym (drop-drop (length w) at s) ∙ ap (drop (length w)) e ∙ drop_at w r (length w) refl

  -- a byte of it stands within the phrase
  inside : (b : ℕ) (r : List ℕ) → drop at s ≡ b ∷ r → at < length s
  inside b r e = let sizes : length s - at ≡ suc (length r) = sym (length-drop at s) ∙ ap length e in omega arith

  first : (b : ℕ) (r : List ℕ) → drop at s ≡ b ∷ r → get_or s at 0 ≡ b
  first b r e =
      let none : at + 0 ≡ at = omega arith in
      rw none at (sym (get_or-drop at s 0 0) ∙ ap (λ l. get_or l 0 0) e)

  -- the bytes of class k at its front
  ends : (k : Class) (w r : List ℕ) → drop at s ≡ w ++ r → All k w → run k r ≡ 0 → run_end k s at ≡ at + length w
  ends k w r e h z = let more = run_on k w r h in rw e (omega arith)

  cut : (w r : List ℕ) → drop at s ≡ w ++ r → between s at (at + length w) ≡ w
  cut w r e =
      let n : at + length w - at ≡ length w = omega arith in
      rw (n, e) (take_at w r (length w) refl)

  module _ (ws : List Word) where
    -- past a gap
    gap_token : (b : ℕ) (r : List ℕ) → drop at s ≡ b ∷ r → class_of b ≡ Gap → token_at ws s at ≡ token_at ws s (at + 1)
    unfolding token_at
    gap_token b r e c =
        let next : drop (at + 1) s ≡ r = dropped (b ∷ []) r e in
        let same : run_end Gap s at ≡ run_end Gap s (at + 1) = rw (e, next, c) (omega arith) in
        rw same

    -- what begins with a byte that is no gap
    token_here : (b : ℕ) (r : List ℕ) → drop at s ≡ b ∷ r → (class_of b ≡ Gap → ⊥) → token_at ws s at ≡ found (token_of ws (class_of b) s at)
    unfolding token_at
    token_here b r e c =
        let here : run_end Gap s at ≡ at = rw (e, same_not (class_of b) Gap c) (omega arith) in
        rw (here, lt-ltb at (length s) (inside b r e), first b r e)

    finish_token : drop at s ≡ [] → token_at ws s at ≡ Ok None
    unfolding token_at
    finish_token e =
        let here : run_end Gap s at ≡ at = rw e (omega arith) in
        let sizes : length s - at ≡ 0 = sym (length-drop at s) ∙ ap length e in
        rw (here, le-ltb at (length s) (omega arith))

    -- a run of letters is one word
    word_token : (b : ℕ) (w r : List ℕ) (l : ℕ) → drop at s ≡ (b ∷ w) ++ r → All Letter (b ∷ w) → run Letter r ≡ 0
        → meaning ws (folded (b ∷ w)) ≡ Some l → token_at ws s at ≡ Ok (Some (token l at (at + length (b ∷ w))))
    unfolding word_at
    word_token b w r l e h z m =
        let c = (all_first Letter b w h).0 in
        rw (
          token_here b (w ++ r) e (λ g. let q : Letter ≡ Gap = sym c ∙ g in cc),
          c,
          ends Letter (b ∷ w) r e h z,
          cut (b ∷ w) r e,
          m,
        )

    -- a run of digits is one number
    number_token : (b : ℕ) (w r : List ℕ) → drop at s ≡ (b ∷ w) ++ r → All Digit (b ∷ w) → run Digit r ≡ 0 → value_from 0 (b ∷ w) ≤ 4294967295
        → token_at ws s at ≡ Ok (Some (token (NUM * said_digits (length (b ∷ w)) + value_from 0 (b ∷ w)) at (at + length (b ∷ w))))
    unfolding number_at
    number_token b w r e h z m =
        let c = (all_first Digit b w h).0 in
        let size : at + length (b ∷ w) - at ≡ length (b ∷ w) = omega arith in
        rw (
          token_here b (w ++ r) e (λ g. let q : Digit ≡ Gap = sym c ∙ g in cc),
          c,
          ends Digit (b ∷ w) r e h z,
          cut (b ∷ w) r e,
          le-leb (value_from 0 (b ∷ w)) 4294967295 m,
          size,
        )

    -- a mark is one lexeme
    mark_token : (b l : ℕ) (r : List ℕ) → drop at s ≡ b ∷ r → class_of b ≡ Mark → mark_of b ≡ Some l → token_at ws s at ≡ Ok (Some (token l at (at + 1)))
    mark_token b l r e c m = rw (token_here b r e (λ g. let q : Mark ≡ Gap = sym c ∙ g in cc), c, first b r e, m)

-- a rest of a phrase is lexed whole, with room for so many lexemes, as `items` of the place where it begins
pub record Lexes (ws : List Word) (room : ℕ) (r : List ℕ) (items : ℕ → List Item) : Type 0 where
  pub from : (s : List ℕ) (at : ℕ) → drop at s ≡ r → lex_from ws room s at ≡ given (items at)

module _ (ws : List Word) (room : ℕ) where
  -- the end
  pub end_lexes : Lexes ws room [] (λ at. [])
  end_lexes = record { from = λ s at e. (lex_finish ws s at room (finish_token s at ws e)).0 }

  -- a lexeme of n bytes in front of a rest that is lexed
  taken_lexes : {r : List ℕ} {items : ℕ → List Item} (n k : ℕ) (all : List ℕ)
      → ((s : List ℕ) (at : ℕ) → drop at s ≡ all → (token_at ws s at ≡ Ok (Some (token k at (at + n)))) × (drop (at + n) s ≡ r))
      → Lexes ws room r items → Lexes ws (suc room) all (λ at. item k at ∷ items (at + n))
  taken_lexes n k all token rest =
      record {
        from = λ s at e.
            let t = token s at e in
            (lex_taken ws s at (suc room) room k at (at + n) refl t.0).0 ∙ ap (ahead (item k at ∷ [])) (rest.from s (at + n) t.1);
      }

  module _ {r : List ℕ} {items : ℕ → List Item} where
    -- a gap is passed
    pub gap_lexes : (b : ℕ) → class_of b ≡ Gap → Lexes ws room r items → Lexes ws room (b ∷ r) (λ at. items (at + 1))
    gap_lexes b c rest = record { from = λ s at e. go room s at e ∙ rest.from s (at + 1) (dropped s at (b ∷ []) r e) }
      where
        go : (n : ℕ) (s : List ℕ) (at : ℕ) → drop at s ≡ b ∷ r → lex_from ws n s at ≡ lex_from ws n s (at + 1)
        go zero s at e = rw (gap_token s at ws b r e c)
        go (suc n) s at e = rw (gap_token s at ws b r e c)

    -- a mark is one lexeme
    pub mark_lexes : (b l : ℕ) → class_of b ≡ Mark → mark_of b ≡ Some l → Lexes ws room r items → Lexes ws (suc room) (b ∷ r) (λ at. item l at ∷ items (at + 1))
    mark_lexes b l c m rest = taken_lexes 1 l (b ∷ r) (λ s at e. (mark_token s at ws b l r e c m, dropped s at (b ∷ []) r e)) rest

    -- a known word in front of what is no letter is one lexeme
    pub word_lexes : (w : List ℕ) (l : ℕ) → 0 < length w → All Letter w → run Letter r ≡ 0 → meaning ws (folded w) ≡ Some l
        → Lexes ws room r items → Lexes ws (suc room) (w ++ r) (λ at. item l at ∷ items (at + length w))
    word_lexes [] l p h z m rest = absurd (not-suc-le-zero p)
    word_lexes (b ∷ w) l p h z m rest =
        taken_lexes (length (b ∷ w)) l (b ∷ w ++ r) (λ s at e. (word_token s at ws b w r l e h z m, dropped s at (b ∷ w) r e)) rest

    -- digits in front of what is no digit are the literal of their count and value
    number_lexes : (w : List ℕ) (v : ℕ) → 0 < length w → All Digit w → run Digit r ≡ 0 → value_from 0 w ≡ v → v ≤ 4294967295
        → Lexes ws room r items → Lexes ws (suc room) (w ++ r) (λ at. item (NUM * said_digits (length w) + v) at ∷ items (at + length w))
    number_lexes [] v p h z e m rest = absurd (not-suc-le-zero p)
    number_lexes (b ∷ w) v p h z q m rest =
        taken_lexes (length (b ∷ w)) (NUM * said_digits (length (b ∷ w)) + v) (b ∷ w ++ r)
        (λ s at e. (rw (← q) (number_token s at ws b w r e h z (rw q m)), dropped s at (b ∷ w) r e)) rest

    -- k digits of a number that has no more, in front of what is no digit
    pub digits_lexes : (k n : ℕ) → 0 < k → k ≤ 256 → n < 10 ^ k → n ≤ 4294967295 → run Digit r ≡ 0
        → Lexes ws room r items → Lexes ws (suc room) (digits_of k n ++ r) (λ at. item (NUM * k + n) at ∷ items (at + k))
    digits_lexes k n some few fits most z rest =
        let size = digits_length k n in
        let said : said_digits k ≡ k = omega arith in
        rw (size, said) at (number_lexes (digits_of k n) n (omega arith) (digits_all k n) z (digits_say k n fits) most rest)

-- a phrase that is lexed whole from its beginning
pub lexed_whole : (ws : List Word) (s : List ℕ) (items : ℕ → List Item) → length s ≤ 256 → Lexes ws 64 s items → lexed ws s ≡ given (items 0)
unfolding lexed
lexed_whole ws s items h lexes = rw (le-leb (length s) 256 h) (lexes.from s 0 refl)
