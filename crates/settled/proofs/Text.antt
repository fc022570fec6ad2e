-- The promises of `text`. Assumes nothing.
use Rattle.settled.proofs.Settled.{Same, Settled, same}
use Rattle.text.proofs.now.now_of.Reads as now_of'
use Rattle.text.proofs.stream.answer_piece.Reads as answer_piece'
use Rattle.text.proofs.stream.write_last.Reads as write_last'

pub now_of : Settled now_of'.Post
now_of = same now_of'.Post _ _ (λ κs a z e p. p)

pub answer_piece :
    Settled answer_piece'.Post
    × Same answer_piece'.Post (λ κs z e. e.1.0.now)
    × Same answer_piece'.Post (λ κs z e. e.1.1.1.0.now)
answer_piece = (
  same answer_piece'.Post _ _ (λ κs a z e p. p.0),
  same answer_piece'.Post _ _ (λ κs a z e p. p.1.1.0),
  same answer_piece'.Post _ _ (λ κs a z e p. p.1.1.1),
)

pub write_last : Settled write_last'.Post × Same write_last'.Post (λ κs z e. e.1.1.0.now)
write_last = (same write_last'.Post _ _ (λ κs a z e p. p.count), same write_last'.Post _ _ (λ κs a z e p. p.stored))
