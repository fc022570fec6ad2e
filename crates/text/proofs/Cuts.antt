-- A text cut at its first line feed, and cut anywhere. Assumes nothing.
use Prim.Native.Nat.{ℕ, suc, ◌+◌, ◌-◌, ◌≤◌, ◌<◌}
use native.Mathlib.Nat.{not-suc-le-zero}
use native.Mathlib.Omega.{arith}
use mathlib.Core.Path.{◌≡◌, refl, sym, ap, ◌∙◌}
use mathlib.Core.Bool.{Bool, true, false, cond}
use mathlib.Core.List.{List, [], ◌∷◌, ◌++◌, append-nil}
use lib.Dec.{eqb, ltb}
use lib.ListN.{length, take, drop, length-drop}
use lib.Seq.{append_snoc, drop-drop}
use borrow.Author.Tests.{ltb-true, ltb-false}
use Rattle.std.proofs.Common.{Option, Some, None}
use Rattle.scan.specs.Bytes.{index_of}
use Rattle.text.specs.Lines.{feed, whole_from, rest_from, whole_of, rest_of, line_end}

-- the first line ends at a line feed
pub record Ended (l t : List ℕ) : Type 0 where
  pub whole : whole_from l t ≡ (l ++ take (index_of feed t) t) ∷ whole_of (drop (suc (index_of feed t)) t)
  pub rest : rest_from l t ≡ rest_of (drop (suc (index_of feed t)) t)

ended : (t l : List ℕ) → index_of feed t < length t → Ended l t
unfolding index_of
ended [] l h = absurd (not-suc-le-zero h)
ended (b ∷ t) l h = go (eqb b feed) refl (ended t (l ++ (b ∷ [])))
  where
    go : (x : Bool) → eqb b feed ≡ x → (index_of feed t < length t → Ended (l ++ (b ∷ [])) t) → Ended l (b ∷ t)
    go true e next = record { whole = rw (e, append-nil); rest = rw e }
    go false e next =
        let less : suc (index_of feed t) < suc (length t) = rw e at h in
        let n = next (omega arith) in
        record { whole = rw (e, n.whole, append_snoc l b); rest = rw (e, n.rest) }

-- there is no line feed
pub record Open (l t : List ℕ) : Type 0 where
  pub whole : whole_from l t ≡ []
  pub rest : rest_from l t ≡ l ++ t

goes_on : (t l : List ℕ) → length t ≤ index_of feed t → Open l t
unfolding index_of
goes_on [] l h = record { whole = refl; rest = sym (append-nil l) }
goes_on (b ∷ t) l h = go (eqb b feed) refl (goes_on t (l ++ (b ∷ [])))
  where
    go : (x : Bool) → eqb b feed ≡ x → (length t ≤ index_of feed t → Open (l ++ (b ∷ [])) t) → Open l (b ∷ t)
    go true e next = let none : suc (length t) ≤ 0 = rw e at h in absurd (omega arith)
    go false e next =
        let more : suc (length t) ≤ suc (index_of feed t) = rw e at h in
        let n = next (omega arith) in
        record { whole = rw (e, n.whole); rest = rw (e, n.rest, append_snoc l b) }

-- the same for the line that begins at a place of a text
module _ (s : List ℕ) (a : ℕ) where
  -- a line that a line feed ends
  pub record Next (e : ℕ) : Type 0 where
    pub within : (a ≤ e) × (e < length s)
    pub whole : whole_of (drop a s) ≡ take (e - a) (drop a s) ∷ whole_of (drop (e + 1) s)
    pub rest : rest_of (drop a s) ≡ rest_of (drop (e + 1) s)

  next_at : (e : ℕ) → e ≡ a + index_of feed (drop a s) → e < length s → Next e
  next_at e end inside =
      let n = ended (drop a s) [] (rw length-drop (omega arith)) in
      let size : e - a ≡ index_of feed (drop a s) = omega arith in
      let past : a + suc (index_of feed (drop a s)) ≡ e + 1 = omega arith in
      let behind : drop (suc (index_of feed (drop a s))) (drop a s) ≡ drop (e + 1) s = drop-drop _ a s ∙ ap (λ (k : ℕ). drop k s) past in
      record { within = omega arith; whole = rw (size, ← behind) n.whole; rest = rw (← behind) n.rest }

  pub next_line : {e : ℕ} → Some e ≡ line_end s a → Next e
  unfolding line_end
  next_line {e} told = go (ltb _ (length s)) refl told
    where
      go :
          (b : Bool) → ltb (a + index_of feed (drop a s)) (length s) ≡ b
          → Some e ≡ cond b (Some (a + index_of feed (drop a s))) None → Next e
      go true t h = let end : e ≡ a + index_of feed (drop a s) = cc in let inside = ltb-true _ _ t in next_at e end (omega arith)
      go false t h = let z : ◌≡◌ {A = ℕ} 0 1 = cc in absurd (omega arith)

  -- a line that goes on
  pub open_line : None ≡ line_end s a → Open [] (drop a s)
  unfolding line_end
  open_line told = go (ltb _ (length s)) refl told
    where
      go :
          (b : Bool) → ltb (a + index_of feed (drop a s)) (length s) ≡ b
          → ◌≡◌ {A = Option ℕ} None (cond b (Some (a + index_of feed (drop a s))) None) → Open [] (drop a s)
      go true t h = let z : ◌≡◌ {A = ℕ} 0 1 = cc in absurd (omega arith)
      go false t h = let past = ltb-false _ _ t in goes_on (drop a s) [] (rw length-drop (omega arith))
