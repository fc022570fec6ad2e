-- `lexer::lex::number_at` meets its contract. Assumes nothing.
use mathlib.Core.Bool.{Bool, true}
use mathlib.Core.List.{List}
use mathlib.Core.Path.{◌≡◌, refl, sym, ap, ◌∙◌}
use Prim.Native.Nat.{ℕ, ◌+◌, ◌*◌, ◌-◌, ◌<◌, min}
use native.Mathlib.Omega.{arith}
use borrow.Author.Tests.{le-leb, lt-leb}
use lib.ListN.{length, get_or}
use Rattle.digits.proofs.Says.{cut_off}
use Rattle.refusals.specs.Answers.{between}
use Rattle.lexer.specs.Classes.{Digit}
use Rattle.lexer.specs.Lex.{run_end, is_digit_at, number_from, number_at}
use Rattle.lexer.proofs.Runs.{digit_stands, digits_on, digits_end, digit_more, digits_over}
use Rattle.lexer.proofs.lex.number_at.Goals as goal
use Rattle.lexer.proofs.lex.number_at.Goals.{After-loop-value}

-- a digit that stands at a place stands in the phrase
stands : (s : List ℕ) (e : ℕ) {b : Bool} → b ≡ is_digit_at s e → b ≡ true → e < length s
stands s e is on = (digit_stands s e (sym is ∙ on)).0

-- where the loop ends, the run ends and the value is what it says, cut off
ended : (c : After-loop-value)
    → let s = c.args.s.now in
    let a = c.args.a in
    (run_end Digit s a ≡ c.loop-value.end) × (min (number_from s a) 4294967296 ≡ min c.loop-value.value 4294967296)
ended c =
    let s = c.args.s.now in
    let off = sym c.is_digit_at.ensures ∙ c.loop-value-test.false in (
      omega (arith, c.loop-value.invariant.on, digits_end s c.loop-value.end off),
      c.loop-value.invariant.says ∙ ap (λ x. min x 4294967296) (digits_over s c.loop-value.end c.loop-value.value off),
    )

pub bounds-s-end : goal.bounds-s-end
bounds-s-end c = stands c.args.s.now c.loop-value.end c.is_digit_at.ensures c.loop-value-test.true

pub overflow_add-end : goal.overflow_add-end
overflow_add-end c = omega (arith, stands c.args.s.now c.loop-value.end c.is_digit_at.ensures c.loop-value-test.true)

pub loop-value-smaller : goal.loop-value-smaller
loop-value-smaller c = omega (arith, stands c.args.s.now c.loop-value.end c.is_digit_at.ensures c.loop-value-test.true)

pub loop-value-preserved : goal.loop-value-preserved
loop-value-preserved c =
    let s = c.args.s.now in
    let e = c.loop-value.end in
    let v = c.loop-value.value in
    let on = sym c.is_digit_at.ensures ∙ c.loop-value-test.true in
    let left = between s (e + 1) (run_end Digit s (e + 1)) in
    record {
      on = omega (arith, c.loop-value.invariant.on, digits_on s e on);
      most = omega (arith, c.with_digit-value.ensures);
      says =
          rw c.with_digit-value.ensures
          (c.loop-value.invariant.says ∙ ap (λ x. min x 4294967296) (digit_more s e v on)
          ∙ sym (cut_off (v * 10 + (get_or s e 0 - 48)) 4294967296 left));
    }

pub overflow_sub-end : goal.overflow_sub-end
overflow_sub-end c = omega (arith, (ended (goal.at.overflow_sub-end c).After-loop-value).0)

pub returns-then-value-ge-TOO_LARGE : goal.returns-then-value-ge-TOO_LARGE
unfolding number_at
returns-then-value-ge-TOO_LARGE c =
    let end = ended (goal.at.returns-then-value-ge-TOO_LARGE c).After-loop-value in
    let value = number_from c.args.s.now c.args.a in
    rw (lt-leb value 4294967295 (omega (arith, end.1, c.if-value-ge-TOO_LARGE.true)), end.0) refl

pub returns : goal.returns
unfolding number_at
returns c =
    let end = ended (goal.at.returns c).After-loop-value in
    let small = c.if-value-ge-TOO_LARGE.false in
    let value : number_from c.args.s.now c.args.a ≡ c.loop-value.value = omega (arith, end.1, small) in
    rw (value, end.0, le-leb c.loop-value.value 4294967295 (omega (arith, small)), c.said_digits.ensures) refl
