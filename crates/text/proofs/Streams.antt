-- Lines one by one, and a text that comes in pieces. Assumes nothing.
use Prim.Native.Nat.{ℕ, ◌+◌, ◌*◌, ◌-◌, ◌≤◌, ◌<◌}
use native.Mathlib.Nat.{zero-add}
use native.Mathlib.Omega.{arith}
use mathlib.Core.Path.{◌≡◌, refl, sym, ◌∙◌}
use mathlib.Core.List.{List, [], ◌∷◌, ◌++◌, append-nil, append_assoc}
use lib.ListN.{length, take, drop, length-take, length-append, length-drop}
use lib.Seq.{sets, length-sets, length-take-le}
use Rattle.std.proofs.Common.{Option, Some, None}
use Rattle.digits.specs.Stores.{Written, Added}
use Rattle.digits.proofs.Stores.{sets-append}
use Rattle.digits.proofs.Takes.{drop-take}
use Rattle.calendar.specs.declared.moments.Moment.{Moment}
use Rattle.text.specs.Lines.{whole_of, rest_of}
use Rattle.text.specs.Output.{line_text, after_line, lines_text, after_lines, passed_text, passed, Placed, kept, piece_of, Held, last_text}
use Rattle.text.specs.declared.stream.Passed.{Passed}
use Rattle.text.specs.declared.stream.Piece.{Piece}
use Rattle.text.proofs.Spelled.{answer_limit}
use Rattle.text.proofs.Cuts.{Open, Next}

-- no bytes behind the last line feed are no line
pub last_none : (k : Option Moment) (l : List ℕ) → length l ≡ 0 → last_text k l ≡ []
unfolding last_text
last_none k [] h = refl
last_none k (b ∷ l) h = absurd (omega arith)

-- any other are one
pub last_some : (k : Option Moment) (l : List ℕ) → (length l ≡ 0 → ⊥) → last_text k l ≡ line_text k l
unfolding last_text
last_some k [] h = absurd (h refl)
last_some k (b ∷ l) h = append-nil (line_text k (b ∷ l))

-- a line adds at most 53 bytes
line_limit : (k : Option Moment) (l : List ℕ) → length (line_text k l) ≤ 53
line_limit None l = omega arith
line_limit (Some n) l = answer_limit n l

-- and so does the last
pub last_limit : (k : Option Moment) (l : List ℕ) → length (last_text k l) ≤ 53
unfolding last_text
last_limit k [] = omega arith
last_limit k (b ∷ l) = rw append-nil (line_limit k (b ∷ l))

-- the lines of s before `at` are read: `done` is what they add, and the lines from `at` on lead to the same as all of s
pub record Read (k : Option Moment) (s out₀ out : List ℕ) (known : Option Moment) (at count : ℕ) : Type 0 where
  pub done : List ℕ
  pub within : at ≤ length s
  pub few : count ≤ 53 * at
  pub counted : count ≡ length done
  pub stored : out ≡ sets out₀ 0 done
  pub leads : after_lines k (whole_of s) ≡ after_lines known (whole_of (drop at s))
  pub text : passed_text k s ≡ done ++ lines_text known (whole_of (drop at s))
  pub rest : rest_of s ≡ rest_of (drop at s)

module _ {k : Option Moment} {s out₀ : List ℕ} where
  pub begun : Read k s out₀ out₀ k 0 0
  begun =
      record {
        done = [];
        within = omega arith;
        few = omega arith;
        counted = refl;
        stored = refl;
        leads = refl;
        text = refl;
        rest = refl;
      }

  module _ {out : List ℕ} {known : Option Moment} {at count : ℕ} (was : Read k s out₀ out known at count) where
    -- the buffer keeps its length
    pub same_size : length out ≡ length out₀
    same_size = rw was.stored (length-sets out₀ 0 was.done)

    -- there is room for one line more
    pub has_room : 53 * length s ≤ length out₀ → at < length s → count + 53 ≤ length out
    has_room h i = let few = was.few in omega (arith, same_size)

    -- one line more is read
    pub turned :
        {e : ℕ} → Next s at e → {out' : List ℕ} {count' : ℕ} {known' : Option Moment} →
        let line = take (e - at) (drop at s) in
        Added (line_text known line) count count' out out' → known' ≡ after_line known line → Read k s out₀ out' known' (e + 1) count'
    turned {e} next {out'} {count'} {known'} added led =
        let line = take (e - at) (drop at s) in
        let limit = line_limit known line in
        let more = added.count in
        let few = was.few in
        let counted = was.counted in
        record {
          done = was.done ++ line_text known line;
          within = omega (arith, next.within);
          few = omega (arith, next.within);
          counted = rw length-append (omega arith);
          stored =
              added.stored
              ∙ rw (was.stored, was.counted, sets-append was.done (line_text known line) out₀ 0, zero-add);
          leads = was.leads ∙ rw (next.whole, led);
          text = was.text ∙ rw (next.whole, led, append_assoc);
          rest = was.rest ∙ next.rest;
        }

    -- no line more is ended
    pub over :
        Open [] (drop at s) →
        let r : Passed = record { known = known; at = at; count = count } in
        (r ≡ passed k s) × (Placed s r × (out ≡ sets out₀ 0 (passed_text k s)))
    unfolding passed
    over last =
        let text : passed_text k s ≡ was.done = was.text ∙ rw (last.whole, append-nil) in
        let leads : after_lines k (whole_of s) ≡ known = was.leads ∙ rw last.whole in
        let within = was.within in
        let few = was.few in
        let rest = was.rest ∙ last.rest in
        let place : length s - length (drop at s) ≡ at = rw length-drop (omega arith) in (
          rw (leads, rest, place, text, was.counted),
          (record { within = within; rest = sym rest; few = omega arith }, rw (text, was.stored)),
        )

-- the lines of a piece answered and its rest kept are the piece
pub pieced :
    (k : Option Moment) {s s' : List ℕ} {end held : ℕ} {r : Passed} → end ≤ length s → r ≡ passed k (take end s) → Placed (take end s) r
    → Written (kept (take (end - r.at) (drop r.at s))) held s s' →
    let piece : Piece = record { known = r.known; held = held; count = r.count } in
    (piece ≡ piece_of k (take end s)) × (Held end piece × (s' ≡ sets s 0 (kept (rest_of (take end s)))))
unfolding passed piece_of
pieced k {s} {s'} {end} {held} {r} h told placed w =
    let size : length (take end s) ≡ end = length-take-le end s h in
    let within : r.at ≤ end = omega (arith, placed.within) in
    let rest : take (end - r.at) (drop r.at s) ≡ rest_of (take end s) = sym (drop-take r.at end s within) ∙ placed.rest in
    let few : held ≤ 257 = rw (w.count, length-take) (omega arith) in
    let inside : held ≤ end = rw (w.count, length-take, length-take, length-drop) (omega arith) in
    (rw (w.count, rest, told), (record { few = few; within = inside; count = rw size at placed.few }, rw (w.stored, rest)))
