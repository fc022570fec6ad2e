-- `console::answer_next` meets its contract. Assumes nothing.
use lib.ListN.{take}
use Rattle.console.specs.Turns.{MoreTo}
use Rattle.console.proofs.Turns.{turned}
use Rattle.console.proofs.answer_next.Given.{Over}
use Rattle.console.proofs.answer_next.Goals as goal
use Rattle.console.proofs.answer_next.Goals.{After-answer_piece-p}

-- the piece that was read, answered
next :
    (g : Over) (c : After-answer_piece-p g) →
    let args = c.args in
    let p = c.answer_piece-p.result in
    MoreTo args.known (take args.held args.s.now) p.known p.held c.answer_piece-p.new.s args.out.now c.answer_piece-p.new.out
next g c =
    let told = c.answer_piece-p.ensures in
    turned c.args.known c.read_behind-n.ensures c.read_behind-n.auto.s told.value told.bounds told.input told.output

pub returns-then-is_ok : goal.returns-then-is_ok
returns-then-is_ok g c = next g (goal.at.returns-then-is_ok g c).After-answer_piece-p

pub returns : goal.returns
returns g c = next g (goal.at.returns g c).After-answer_piece-p
