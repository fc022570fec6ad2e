use Rattle.ready.proofs.make.part_move.Goals as goal

pub returns-in-Article : goal.returns-in-Article
returns-in-Article c = rw c.in-Article.is c.length_move.ensures

pub returns-in-Specific : goal.returns-in-Specific
returns-in-Specific c = rw c.in-Specific.is c.length_move-in-Specific.ensures
