use native.Mathlib.Omega.{arith}
use mathlib.Core.Path.{refl}
use mathlib.Core.Bool.{true, false}
use Rattle.steps.specs.declared.plan.Move.TheVariants.{Years}
use Rattle.steps.specs.declared.plan.Step.TheVariants.{By}
use Rattle.ready.proofs.Within.{may_add, within_behind, within_wider}
use Rattle.ready.proofs.make.add_year.Goals as goal

pub add-requires : goal.add-requires
add-requires c = may_add c.requires (By (Years false 1)) (omega arith) (omega arith)

pub add-requires-in-Last : goal.add-requires-in-Last
add-requires-in-Last c = may_add c.requires (By (Years true 1)) (omega arith) (omega arith)

pub returns-in-This : goal.returns-in-This
returns-in-This c = rw c.in-This.is (refl, within_wider c.requires (omega arith))

pub returns-in-Next : goal.returns-in-Next
returns-in-Next c = rw c.in-Next.is (c.add.ensures, within_behind c.requires (By (Years false 1)) c.add.ensures (omega arith) (omega arith))

pub returns-in-Last : goal.returns-in-Last
returns-in-Last c = rw c.in-Last.is (c.add-in-Last.ensures, within_behind c.requires (By (Years true 1)) c.add-in-Last.ensures (omega arith) (omega arith))
