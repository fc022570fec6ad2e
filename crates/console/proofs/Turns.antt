-- A piece read, its lines answered and its rest kept: together they are the next turn, and the turns are the loop. Assumes nothing.
use Prim.Native.Nat.{ℕ, ◌+◌, ◌≤◌, ◌<◌}
use native.Mathlib.Omega.{arith}
use mathlib.Core.Path.{◌≡◌, refl, sym, ap, ◌∙◌}
use mathlib.Core.Bool.{Bool}
use mathlib.Core.List.{List, [], ◌∷◌, ◌++◌, append-nil, append_assoc}
use lib.ListN.{length, take, drop}
use lib.Seq.{sets, take-add, length-take-le}
use Rattle.std.proofs.Common.{Option, None}
use Rattle.digits.proofs.Stores.{sets-taken}
use Rattle.calendar.specs.declared.moments.Moment.{Moment}
use Rattle.text.specs.Lines.{rest_of}
use Rattle.text.specs.Output.{passed_text, kept, piece_of, Held, last_text, output, in_pieces, joined}
use Rattle.text.specs.declared.stream.Piece.{Piece}
use Rattle.text.proofs.Pieces.{in_pieces_lem}
use Rattle.console.specs.Turns.{ReadBehind, MoreTo, Reached, start, behind, Stands}

-- what was kept, and the piece behind it
pub in_two :
    {held n : ℕ} {s₀ s₁ : List ℕ} → ReadBehind held n s₀ s₁ → take (held + n) s₁ ≡ take held s₀ ++ take n (drop held s₁)
in_two {held} {n} {s₀} {s₁} read = take-add held n s₁ ∙ rw read.front

-- the piece that was read is the one that was answered
pub turned :
    (k : Option Moment) {held n : ℕ} {s₀ s₁ s₂ out out' : List ℕ} {r : Piece} →
    let s = take (held + n) s₁ in
    ReadBehind held n s₀ s₁ → length s₁ ≡ length s₀ → r ≡ piece_of k s → Held (held + n) r → s₂ ≡ sets s₁ 0 (kept (rest_of s))
    → out' ≡ sets out 0 (passed_text k s) → MoreTo k (take held s₀) r.known r.held s₂ out out'
unfolding piece_of
turned k {held} {n} {s₀} {s₁} {s₂} {out} {out'} {r} read len told bounds kept_there stored =
    let room = read.room in
    let piece = in_two read in
    let counted : r.held ≡ length (kept (rest_of (take (held + n) s₁))) = ap (λ (x : Piece). x.held) told in
    record {
      piece = take n (drop held s₁);
      known = rw (← piece) (ap (λ (x : Piece). x.known) told);
      rest = rw (← piece, kept_there) (sets-taken (kept (rest_of (take (held + n) s₁))) s₁ (omega (arith, bounds.within)) r.held (sym counted));
      few = bounds.few;
      text = rw (← piece) stored;
    }

-- the loop: what is reached, and buffers as long as before
pub record Going (s₀ out₀ s out : List ℕ) (k : Option Moment) (held : ℕ) : Type 0 where
  pub reached : Reached k (take held s)
  pub few : held ≤ 257
  pub input : length s ≡ length s₀
  pub output : length out ≡ length out₀

module _ {s₀ out₀ s out : List ℕ} {k : Option Moment} {held : ℕ} (was : Going s₀ out₀ s out k held) {s' : List ℕ} where
  -- one piece more
  pub going_on :
      {out' : List ℕ} {k' : Option Moment} {h : ℕ} → MoreTo k (take held s) k' h s' out out' → length s' ≡ length s → length out' ≡ length out
      → Going s₀ out₀ s' out' k' h
  going_on m i o =
      record {
        reached = rw (m.known, m.rest) (behind m.piece was.reached);
        few = m.few;
        input = i ∙ was.input;
        output = o ∙ was.output;
      }

  -- the input has ended
  pub standing :
      (b : Bool) → take (length (take held s)) s' ≡ take held s → length s' ≡ length s → 257 < length s₀
      → Stands (record { known = k; held = held; ended = b }) s'
  standing b e i h =
      let few = was.few in
      let input = was.input in
      let size : length (take held s) ≡ held = length-take-le held s (omega arith) in
      let same : take held s' ≡ take held s = rw size at e in
      record { reached = rw same was.reached; within = omega arith }

-- the loop leaves off where it is
pub left_off :
    {s₀ out₀ s out : List ℕ} {k : Option Moment} {held : ℕ} → Going s₀ out₀ s out k held → (b : Bool) → 257 < length s₀
    → Stands (record { known = k; held = held; ended = b }) s
left_off was b h = let few = was.few in let input = was.input in record { reached = was.reached; within = omega arith }

-- what was reached: some pieces, and what was written for them
pub record Behind (k : Option Moment) (l : List ℕ) : Type 0 where
  pub pieces : List (List ℕ)
  pub text : List ℕ
  pub on : (ps : List (List ℕ)) → in_pieces None [] (pieces ++ ps) ≡ text ++ in_pieces k l ps

all_behind : {k : Option Moment} {l : List ℕ} → Reached k l → Behind k l
all_behind start = record { pieces = []; text = []; on = λ ps. refl }
all_behind (behind {k} {l} p r) =
    let was = all_behind r in
    record {
      pieces = was.pieces ++ (p ∷ []);
      text = was.text ++ passed_text k (l ++ p);
      on = λ ps. rw (append_assoc was.pieces (p ∷ []) ps, was.on (p ∷ ps)) (sym (append_assoc was.text (passed_text k (l ++ p)) _));
    }

-- where the loop stands, the output of all that was read is what was written and the last line's answer, if any
pub record Standing (k : Option Moment) (l : List ℕ) : Type 0 where
  pub input : List ℕ
  pub text : List ℕ
  pub whole : output input ≡ text ++ last_text k l

pub stands : {k : Option Moment} {l : List ℕ} → Reached k l → Standing k l
stands r =
    let b = all_behind r in
    record {
      input = joined b.pieces;
      text = b.text;
      whole = sym (in_pieces_lem b.pieces) ∙ rw (← (append-nil b.pieces)) (b.on []);
    }
