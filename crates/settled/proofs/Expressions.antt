-- The promises of `expressions`. Assumes nothing.
use Rattle.settled.proofs.Settled.{Settled, same}
use Rattle.expressions.proofs.expr.has_duration.Reads as has_duration'
use Rattle.expressions.proofs.expr.read_expr.Reads as read_expr'

pub has_duration : Settled has_duration'.Post
has_duration = same has_duration'.Post _ _ (λ κs a z e p. p)

pub read_expr : Settled read_expr'.Post
read_expr = same read_expr'.Post _ _ (λ κs a z e p. p.0)
