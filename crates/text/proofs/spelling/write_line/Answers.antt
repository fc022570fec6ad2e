-- `text::spelling::write_line` meets its contract: an answer always fits. Assumes nothing.
use mathlib.Core.List.{[], ◌∷◌}
use Prim.Native.Nat.{◌≤◌}
use native.Mathlib.Nat.{zero-add}
use native.Mathlib.Omega.{arith}
use lib.ListN.{length, length-append}
use Rattle.digits.specs.Stores.{Written}
use Rattle.digits.proofs.Stores.{sets-append}
use Rattle.lexer.specs.Keywords.{words_in}
use Rattle.text.specs.Answers.{First, answer_of}
use Rattle.text.specs.Lines.{feed}
use Rattle.text.specs.Texts.{text_of}
use Rattle.text.proofs.Spelled.{text_limit, fits}
use Rattle.text.proofs.spelling.write_line.Goals as goal
use Rattle.text.proofs.spelling.write_line.Goals.{After-write_answer-n}

-- the whole answer is written
told :
    (c : After-write_answer-n) →
    let args = c.args in
    Written (text_of (answer_of First (words_in First) args.phrase.now args.t)) c.write_answer-n.result args.out.now c.write_answer-n.new.out
told c =
    let args = c.args in
    let x = answer_of First (words_in First) args.phrase.now args.t in
    let room : length (text_of x) ≤ length args.out.now = omega (arith, text_limit x) in
    rw (c.answer-a.ensures, fits (length args.out.now) (text_of x) room) at c.write_answer-n.ensures

-- it is short
short : (c : After-write_answer-n) → c.write_answer-n.result ≤ 52
short c =
    let args = c.args in
    omega (arith, (told c).count, text_limit (answer_of First (words_in First) args.phrase.now args.t))

pub bounds-out-n : goal.bounds-out-n
bounds-out-n c = omega (arith, short (goal.at.bounds-out-n c).After-write_answer-n, c.write_answer-n.auto.out)

pub overflow_add-result : goal.overflow_add-result
overflow_add-result c = omega (arith, short (goal.at.overflow_add-result c).After-write_answer-n)

pub returns : goal.returns
returns c =
    let w = told (goal.at.returns c).After-write_answer-n in
    let args = c.args in
    let text = text_of (answer_of First (words_in First) args.phrase.now args.t) in
    record {
      count = simp length-append (omega (arith, w.count));
      stored = rw (w.stored, w.count, sets-append text (feed ∷ []) args.out.now 0, zero-add);
    }
