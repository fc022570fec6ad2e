-- `rules::part::number` meets its contract. Assumes nothing.
use mathlib.Core.Path.{◌≡◌, refl, sym, ◌∙◌}
use mathlib.Core.Bool.{and-false}
use native.Mathlib.Omega.{arith}
use borrow.Author.Tests.{lt-ltb, le-leb, lt-leb}
use Rattle.rules.specs.Numbers.{number_in, number_to}
use Rattle.rules.proofs.Digits.{one_more, none_more, ended}
use Rattle.rules.proofs.part.number.Goals as goal
use Rattle.rules.proofs.part.number.Goals.{else-v-gt0-via-then-v-gt0+else-v-from, else-v-gt0-via-else-v-gt0}

pub loop-b-init : goal.loop-b-init
loop-b-init c = record { digits = refl; most = omega arith; says = refl }

pub loop-b-preserved : goal.loop-b-preserved
loop-b-preserved c =
    rw c.with_digit-v.ensures (one_more c.loop-b.invariant c.loop-b-test.true (sym c.is_digit.ensures ∙ c.if-not-is_digit.false))

pub returns-then-not-is_digit : goal.returns-then-not-is_digit
unfolding number_to
returns-then-not-is_digit c =
    rw (none_more c.loop-b.invariant c.loop-b-test.true (sym c.is_digit.ensures ∙ c.if-not-is_digit.true))

pub returns-then-v-from : goal.returns-then-v-from
unfolding number_to
returns-then-v-from c =
    let value : number_in c.args.s.now ≡ c.loop-b.v = omega (arith, ended c.loop-b.invariant c.loop-b-test.false) in
    rw (value, lt-ltb _ _ c.if-v-gt0.true, le-leb c.loop-b.v c.args.most (omega arith))

pub returns-else-v-gt0 : goal.returns-else-v-gt0
unfolding number_to
returns-else-v-gt0 c =
    let end = ended c.loop-b.invariant c.loop-b-test.false in
    elim c.else-v-gt0.branch [
      | else-v-gt0-via-then-v-gt0+else-v-from w ↦ rw (lt-leb (number_in c.args.s.now) c.args.most (omega (arith, end, w.if-v-from.false))) (rw and-false)
      | else-v-gt0-via-else-v-gt0 w ↦ let none : number_in c.args.s.now ≡ 0 = omega (arith, end, w.if-v-gt0.false) in rw none
    ]
