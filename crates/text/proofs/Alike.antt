-- Lines that the program cannot tell apart by what it keeps of them: 257 bytes. Assumes nothing.
use Prim.Native.Nat.{ℕ, ◌<◌}
use native.Mathlib.Omega.{arith}
use mathlib.Core.Path.{◌≡◌, refl, sym, ap, ◌∙◌}
use mathlib.Core.Bool.{Bool, true, false}
use mathlib.Core.List.{List, [], ◌∷◌, ◌++◌}
use lib.Dec.{leb, eqb}
use lib.ListN.{length, length-take, length-append}
use lib.Seq.{take_all, take-take}
use borrow.Author.Tests.{leb-true, leb-false, lt-leb}
use Rattle.std.proofs.Common.{Option, Some, None}
use Rattle.digits.specs.Forms.{of_form}
use Rattle.digits.proofs.Forms.{form_length}
use Rattle.lexer.specs.Keywords.{words_in}
use Rattle.lexer.specs.Lex.{lexed}
use Rattle.refusals.specs.declared.Reason.TheVariants as refusal
use Rattle.calendar.specs.declared.moments.Moment.{Moment}
use Rattle.phrase.specs.Read.{read_of}
use Rattle.text.specs.Answers.{refuse, First, answer_of}
use Rattle.text.specs.Nows.{now_form, no_now, now_of}
use Rattle.text.specs.Lines.{feed, whole_from, rest_from, last_of}
use Rattle.text.specs.Output.{kept, line_text, after_line, lines_text, after_lines}

-- the same line, or two of more than 256 bytes
pub data Alike (l m : List ℕ) : Type 0 where
  same : l ≡ m → Alike l m
  long : 256 < length l → 256 < length m → Alike l m

-- what is kept is enough to tell
alike_kept : (l m : List ℕ) → kept l ≡ kept m → Alike l m
alike_kept l m e = go (leb (length l) 256) refl
  where
    sizes : length (kept l) ≡ length (kept m)
    sizes = ap length e

    go : (b : Bool) → leb (length l) 256 ≡ b → Alike l m
    go true t =
        let few = leb-true (length l) 256 t in
        let both = simp length-take at sizes in
        same (sym (take_all 257 l (omega arith)) ∙ e ∙ take_all 257 m (omega arith))
    go false t =
        let many = leb-false (length l) 256 t in
        let both = simp length-take at sizes in
        long many (omega arith)

-- "phrase longer than 256 bytes" is refusal 1 at every now
pub too_long : (l : List ℕ) (n : Moment) → 256 < length l → answer_of First (words_in First) l n ≡ refuse refusal.TooLong 0 0
unfolding answer_of read_of lexed
too_long l n h = rw (lt-leb (length l) 256 h)

-- a first line so long is no now
long_now : (l : List ℕ) → 256 < length l → now_of l ≡ no_now
unfolding now_of
long_now l h = go (of_form now_form l) refl
  where
    go : (b : Bool) → of_form now_form l ≡ b → now_of l ≡ no_now
    go true e = let short = form_length now_form l e in absurd (omega arith)
    go false e = rw e

module _ {l m : List ℕ} where
  -- they add the same to the output
  alike_text : (k : Option Moment) → Alike l m → line_text k l ≡ line_text k m
  alike_text k (same e) = ap (line_text k) e
  alike_text None (long a b) = refl
  alike_text (Some n) (long a b) = rw (too_long l n a, too_long m n b)

  -- and lead to the same
  alike_after : (k : Option Moment) → Alike l m → after_line k l ≡ after_line k m
  alike_after k (same e) = ap (after_line k) e
  alike_after None (long a b) = rw (long_now l a, long_now m b)
  alike_after (Some n) (long a b) = refl

  -- one byte more behind each
  alike_more : (c : ℕ) → Alike l m → Alike (l ++ (c ∷ [])) (m ++ (c ∷ []))
  alike_more c (same e) = same (ap (λ (x : List ℕ). x ++ (c ∷ [])) e)
  alike_more c (long a b) = long (rw length-append (omega arith)) (rw length-append (omega arith))

  -- a line and what is kept of it
  pub alike_front : Alike l m → Alike l (kept m)
  alike_front (same e) = alike_kept l (kept m) (ap kept e ∙ sym (take-take 257 257 m (omega arith)))
  alike_front (long a b) = long a (rw length-take (omega arith))

-- so do the lines of a text behind them, and their rests are alike
pub record Behind (k : Option Moment) (l m p : List ℕ) : Type 0 where
  pub text : lines_text k (whole_from l p) ≡ lines_text k (whole_from m p)
  pub leads : after_lines k (whole_from l p) ≡ after_lines k (whole_from m p)
  pub rest : Alike (rest_from l p) (rest_from m p)

pub behind : (p : List ℕ) (k : Option Moment) (l m : List ℕ) → Alike l m → Behind k l m p
behind [] k l m a = record { text = refl; leads = refl; rest = a }
behind (c ∷ p) k l m a =
    go (eqb c feed) refl (behind p (after_line k l) [] [] (same refl)) (behind p k (l ++ (c ∷ [])) (m ++ (c ∷ [])) (alike_more c a))
  where
    go :
        (b : Bool) → eqb c feed ≡ b → Behind (after_line k l) [] [] p → Behind k (l ++ (c ∷ [])) (m ++ (c ∷ [])) p → Behind k l m (c ∷ p)
    go true e fresh on =
        record {
          text = rw (e, alike_text k a, alike_after k a);
          leads = rw e (ap (λ (x : Option Moment). after_lines x (whole_from [] p)) (alike_after k a));
          rest = rw e fresh.rest;
        }
    go false e fresh on = record { text = rw e on.text; leads = rw e on.leads; rest = rw e on.rest }

-- and as the last lines of a text
pub alike_last : (k : Option Moment) (l m : List ℕ) → Alike l m → lines_text k (last_of l) ≡ lines_text k (last_of m)
alike_last k l m (same e) = ap (λ (x : List ℕ). lines_text k (last_of x)) e
alike_last k [] m (long a b) = absurd (omega arith)
alike_last k (c ∷ l) [] (long a b) = absurd (omega arith)
alike_last k (c ∷ l) (d ∷ m) (long a b) = rw (alike_text {l = c ∷ l} {m = d ∷ m} k (long a b))
