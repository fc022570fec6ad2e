use mathlib.Core.Path.{refl, ◌∙◌}
use Rattle.repeats.proofs.Division.{up_bounds, ceil_up}
use Rattle.repeats.proofs.days.rounded_up.Goals as goal

pub returns : goal.returns
returns c =
    let same = c.div_ceil.ensures ∙ ceil_up c.args.i c.args.n c.requires.0 in
    rw same (refl, (up_bounds _ _ c.requires.0).high)
