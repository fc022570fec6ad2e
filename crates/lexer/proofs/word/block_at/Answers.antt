-- `lexer::word::block_at` meets its contract. Assumes nothing.
use mathlib.Core.Path.{◌≡◌, refl, sym, ap, ◌∙◌}
use mathlib.Core.List.{List}
use Prim.Native.Nat.{ℕ, suc, ◌+◌, ◌*◌, ◌-◌, ◌<◌, ◌≤◌, ◌^◌, min}
use native.Mathlib.Omega.{arith}
use lib.ListN.{drop}
use Rattle.std.specs.Prelude.{Some}
use Rattle.lexer.specs.Classes.{Letter}
use Rattle.lexer.specs.Table.{fixed, bytes_from}
use Rattle.lexer.specs.Lex.{run, word_from, letter_at, block_of}
use Rattle.lexer.proofs.Letters.{letter_there, letter_none, word_none, word_step}
use Rattle.lexer.proofs.Rooms.{room_begins, room_byte, room_below}
use Rattle.lexer.proofs.Runs.{run_step}
use Rattle.lexer.proofs.word.block_at.Invariants.{Gathering}
use Rattle.lexer.proofs.word.block_at.Goals as goal

-- a letter more
record More (s : List ℕ) (at n number i c : ℕ) : Type 0 where
  next : Gathering s at n (number * 256 + c) (i + 1)
  below : number * 256 + c < 2 ^ 64

more : (s : List ℕ) (at n number i c : ℕ) → i < n → Gathering s at n number i → letter_at s (at + i) ≡ Some c → More s at n number i c
more s at n number i c few g e =
    let t = letter_there s (at + i) c e in
    let less : n - i ≡ suc (n - (i + 1)) = omega arith in
    let on : at + (i + 1) ≡ at + i + 1 = omega arith in
    let room = room_byte number (n - (i + 1)) c (rw less at g.room) t.byte in
    let step = run_step Letter s (at + i) t.within t.class in
    record {
      next = record {
        within = omega (arith, t.within);
        room = room;
        same = g.same ∙ rw (less, on) (ap (λ (w : List ℕ). bytes_from number (fixed (suc (n - (i + 1))) w)) (word_step s (at + i) c t));
        end = rw on (omega (arith, g.end, step));
      };
      below = room_below _ _ room;
    }

-- at the first letter
first : (s : List ℕ) (at n : ℕ) → n ≤ 8 → Gathering s at n 0 0
first s at n h =
    let e : at + 0 ≡ at = omega arith in
    let d : n - 0 ≡ n = omega arith in
    record { within = omega arith; room = rw d (room_begins n h); same = rw (e, d) refl; end = rw (e, d) refl }

-- n letters were read
last : (s : List ℕ) (at n number i : ℕ) → i ≡ n → Gathering s at n number i → record { number = number; end = at + n } ≡ block_of n s at
last s at n number i e g =
    let none : n - i ≡ 0 = omega arith in
    let is : number ≡ bytes_from 0 (fixed n (word_from s at)) = sym (g.same ∙ ap (λ (p : ℕ). bytes_from number (fixed p (word_from s (at + i)))) none) in
    let end : at + n ≡ at + min n (run Letter (drop at s)) = omega (arith, g.end) in
    λ j. record { number = is j; end = end j }

pub loop-i-init : goal.loop-i-init
loop-i-init c = first c.args.s.now c.args.at c.args.n c.requires

pub returns-in_default : goal.returns-in_default
returns-in_default c =
    let l = c.loop-i in
    let args = c.args in
    let s = args.s.now in
    let none = letter_none s (args.at + l.i) (sym c.letter_at.ensures ∙ c.in_default.is) in
    let over = ap (λ (w : List ℕ). bytes_from l.number (fixed (args.n - l.i) w)) (word_none s (args.at + l.i) none) in
    let number = c.filled.ensures ∙ sym (l.invariant.same ∙ over) in
    let end : args.at + l.i ≡ args.at + min args.n (run Letter (drop args.at s)) = omega (arith, l.invariant.end, none) in
    λ i. record { number = number i; end = end i }

pub overflow_mul-number : goal.overflow_mul-number
overflow_mul-number c = let m = more _ _ _ _ _ _ (omega arith) c.loop-i.invariant (sym c.letter_at.ensures ∙ c.in-Some.is) in omega (arith, m.below)

pub overflow_add-number : goal.overflow_add-number
overflow_add-number c = let m = more _ _ _ _ _ _ (omega arith) c.loop-i.invariant (sym c.letter_at.ensures ∙ c.in-Some.is) in omega (arith, m.below)

pub loop-i-preserved : goal.loop-i-preserved
loop-i-preserved c = (more _ _ _ _ _ _ (omega arith) c.loop-i.invariant (sym c.letter_at.ensures ∙ c.in-Some.is)).next

pub returns : goal.returns
returns c = last c.args.s.now c.args.at c.args.n c.loop-i.number c.loop-i.i (omega arith) c.loop-i.invariant
