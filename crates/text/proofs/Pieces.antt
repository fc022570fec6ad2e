-- The program's output for input that comes in pieces is the output for the whole input, wherever it is cut. Assumes nothing.
use Prim.Native.Nat.{ℕ}
use native.Mathlib.Omega.{arith}
use mathlib.Core.Path.{◌≡◌, refl, sym, ◌∙◌}
use mathlib.Core.Bool.{Bool, true, false}
use mathlib.Core.List.{List, [], ◌∷◌, ◌++◌, append-nil, append_assoc}
use lib.Dec.{eqb}
use lib.ListN.{drop, take-append-drop}
use lib.Seq.{append_snoc}
use Rattle.std.proofs.Common.{Option, Some, None}
use Rattle.calendar.specs.declared.moments.Moment.{Moment}
use Rattle.text.specs.Nows.{now_of}
use Rattle.text.specs.Lines.{feed, whole_from, rest_from, whole_of, rest_of, last_of, lines_of}
use Rattle.text.specs.Output.{answer_lines, output_of, output, kept, after_line, lines_text, after_lines, last_text}
use Rattle.text.specs.Output.{in_pieces, joined}
use Rattle.text.proofs.Alike.{Alike, same, alike_front, behind, alike_last}

-- a text cut in two
pub record Cut (l a b : List ℕ) : Type 0 where
  pub whole : whole_from l (a ++ b) ≡ whole_from l a ++ whole_from (rest_from l a) b
  pub rest : rest_from l (a ++ b) ≡ rest_from (rest_from l a) b

pub cut : (a l b : List ℕ) → Cut l a b
cut [] l b = record { whole = refl; rest = refl }
cut (c ∷ a) l b = go (eqb c feed) refl (cut a [] b) (cut a (l ++ (c ∷ [])) b)
  where
    go : (x : Bool) → eqb c feed ≡ x → Cut [] a b → Cut (l ++ (c ∷ [])) a b → Cut l (c ∷ a) b
    go true e fresh on = record { whole = rw (e, fresh.whole); rest = rw (e, fresh.rest) }
    go false e fresh on = record { whole = rw (e, on.whole); rest = rw (e, on.rest) }

-- no line of it is ended: it is its own rest
own_rest : (a l : List ℕ) → whole_from l a ≡ [] → rest_from l a ≡ l ++ a
own_rest [] l h = sym (append-nil l)
own_rest (c ∷ a) l h = go (eqb c feed) refl (own_rest a (l ++ (c ∷ [])))
  where
    go :
        (x : Bool) → eqb c feed ≡ x → (whole_from (l ++ (c ∷ [])) a ≡ [] → rest_from (l ++ (c ∷ [])) a ≡ l ++ (c ∷ []) ++ a)
        → rest_from l (c ∷ a) ≡ l ++ (c ∷ a)
    go true e on = let h' : l ∷ whole_of a ≡ [] = rw e at h in let z : ◌≡◌ {A = ℕ} 0 1 = cc in absurd (omega arith)
    go false e on = rw e (on (rw e at h) ∙ append_snoc l c a)

-- no line of a rest is ended
rest_open : (p l : List ℕ) → whole_of l ≡ [] → whole_of (rest_from l p) ≡ []
rest_open [] l h = h
rest_open (c ∷ p) l h = go (eqb c feed) refl (rest_open p [] refl) (rest_open p (l ++ (c ∷ [])))
  where
    go :
        (x : Bool) → eqb c feed ≡ x → whole_of (rest_from [] p) ≡ []
        → (whole_of (l ++ (c ∷ [])) ≡ [] → whole_of (rest_from (l ++ (c ∷ [])) p) ≡ [])
        → whole_of (rest_from l (c ∷ p)) ≡ []
    go true e fresh on = rw e fresh
    go false e fresh on = rw e (on ((cut l [] (c ∷ [])).whole ∙ rw (h, e)))

no_first : {A : Type 0} (a b : List A) → a ++ b ≡ [] → a ≡ []
no_first [] b h = refl
no_first (x ∷ a) b h = let z : ◌≡◌ {A = ℕ} 0 1 = cc in absurd (omega arith)

-- nor of what is kept of it
kept_open : (l : List ℕ) → whole_of l ≡ [] → whole_of (kept l) ≡ []
kept_open l h =
    no_first (whole_of (kept l)) (whole_from (rest_of (kept l)) (drop 257 l))
    (sym (cut (kept l) [] (drop 257 l)).whole ∙ rw (take-append-drop 257 l) h)

-- the lines of two lists
texts_append : (a b : List (List ℕ)) (k : Option Moment) → lines_text k (a ++ b) ≡ lines_text k a ++ lines_text (after_lines k a) b
texts_append [] b k = refl
texts_append (l ∷ a) b k = rw (texts_append a b (after_line k l), append_assoc)

-- l is the line so far, m what is kept of it
from_here :
    (ps : List (List ℕ)) (k : Option Moment) (l m : List ℕ) → Alike l m → whole_of m ≡ [] →
    in_pieces k m ps ≡ lines_text k (whole_from l (joined ps) ++ last_of (rest_from l (joined ps)))
unfolding last_text
from_here [] k l m a h = sym (alike_last k l m a)
from_here (p ∷ ps) k l m a h =
    let own : rest_of m ≡ m = own_rest m [] h in
    let whole : whole_of (m ++ p) ≡ whole_from m p = (cut m [] p).whole ∙ rw (h, own) in
    let rest : rest_of (m ++ p) ≡ rest_from m p = (cut m [] p).rest ∙ rw own in
    let b = behind p k l m a in
    let kept_whole = kept_open (rest_from m p) (rest_open p m h) in
    let next = from_here ps (after_lines k (whole_from m p)) (rest_from l p) (kept (rest_from m p)) (alike_front b.rest) kept_whole in
    let behind = whole_from (rest_from l p) (joined ps) in
    let last = last_of (rest_from (rest_from l p) (joined ps)) in
    rw (
      whole,
      rest,
      next,
      (cut p l (joined ps)).whole,
      (cut p l (joined ps)).rest,
      append_assoc (whole_from l p) behind last,
      texts_append (whole_from l p) (behind ++ last) k,
      b.text,
      b.leads,
    )

-- a phrase a line
later_lines : (ls : List (List ℕ)) (n : Moment) → lines_text (Some n) ls ≡ answer_lines n ls
later_lines [] n = refl
later_lines (p ∷ ls) n = rw (later_lines ls n)

-- behind a first line with now
first_line : (ls : List (List ℕ)) → lines_text None ls ≡ output_of ls
first_line [] = refl
first_line (f ∷ ls) = later_lines ls (now_of f)

-- what the loop writes for all the pieces is the output for the input that they make
pub in_pieces_lem : (ps : List (List ℕ)) → in_pieces None [] ps ≡ output (joined ps)
unfolding output
in_pieces_lem ps = from_here ps None [] [] (same refl) refl ∙ first_line (lines_of (joined ps))
