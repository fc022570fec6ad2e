-- `lexer::word::key_at` meets its contract. Assumes nothing.
use mathlib.Core.Path.{◌≡◌, sym, ap, ◌∙◌}
use mathlib.Core.List.{List}
use Prim.Native.Nat.{ℕ, ◌+◌, ◌≤◌, ◌<◌, min}
use native.Mathlib.Omega.{arith}
use lib.ListN.{drop}
use Rattle.lexer.specs.Classes.{Letter}
use Rattle.lexer.specs.Table.{fixed, bytes_from, head_of, tail_of}
use Rattle.lexer.specs.Lex.{run, run_end, word_from, block_of}
use Rattle.lexer.specs.declared.word.Block.{Block}
use Rattle.lexer.proofs.Letters.{no_tail, run_behind, word_behind}
use Rattle.lexer.proofs.word.key_at.Goals as goal

module _ (n : ℕ) (s : List ℕ) (a : ℕ) {b : Block} (e : b ≡ block_of n s a) where
  block_number : b.number ≡ bytes_from 0 (fixed n (word_from s a))
  block_number = ap (λ (x : Block). x.number) e

  block_end : b.end ≡ a + min n (run Letter (drop a s))
  block_end = ap (λ (x : Block). x.end) e

-- behind the second block the run goes on to the word's end
last_end : (s : List ℕ) (a at : ℕ) {end : ℕ} → 8 ≤ run Letter (drop a s) → at ≡ a + 8 → end ≡ at + min 4 (run Letter (drop at s))
    → run_end Letter s end ≡ run_end Letter s a
last_end s a at {end} many e h =
    let left = run_behind s a 8 many in
    let r = ap (λ (k : ℕ). run Letter (drop k s)) e in
    let more = run_behind s at (min 4 (run Letter (drop at s))) (omega arith) in
    let q = ap (λ (k : ℕ). run Letter (drop k s)) h in
    omega arith

pub returns-then-h-a-lt8 : goal.returns-then-h-a-lt8
unfolding head_of
returns-then-h-a-lt8 c =
    let b = c.block_at-h.ensures in
    let s = c.args.s.now in
    let a = c.args.a in
    let few : run Letter (drop a s) < 8 = omega (arith, block_end 8 s a b) in
    let head = block_number 8 s a b in
    let tail = sym (no_tail s a few) in
    let end : c.block_at-h.result.end ≡ run_end Letter s a = omega (arith, block_end 8 s a b) in
    λ i. record { head = head i; tail = tail i; end = end i }

pub returns : goal.returns
unfolding head_of tail_of
returns c =
    let first = c.block_at-h in
    let second = c.block_at-t in
    let s = c.args.s.now in
    let a = c.args.a in
    let b = block_end 8 s a first.ensures in
    let many : 8 ≤ run Letter (drop a s) = omega arith in
    let at : first.result.end ≡ a + 8 = omega arith in
    let head = block_number 8 s a first.ensures in
    let tail : second.result.number ≡ tail_of (word_from s a) =
    block_number 4 s first.result.end second.ensures
    ∙ ap (λ (k : ℕ). bytes_from 0 (fixed 4 (word_from s k))) at
    ∙ ap (λ (w : List ℕ). bytes_from 0 (fixed 4 w)) (sym (word_behind s a 8 many)) in
    let end = c.run_end.ensures ∙ last_end s a first.result.end many at (block_end 4 s first.result.end second.ensures) in
    λ i. record { head = head i; tail = tail i; end = end i }
