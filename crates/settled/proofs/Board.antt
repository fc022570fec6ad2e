-- The promises of `board`. Assumes nothing.
use mathlib.Core.Path.{ap}
use mathlib.Core.List.{[]}
use Rattle.board.specs.Boards.{Memory, head_from}
use Rattle.settled.proofs.Settled.{Same, Settled, same, through}
use Rattle.settled.proofs.Values.{head_one}
use Rattle.board.proofs.calls.make.Reads as make'
use Rattle.board.proofs.calls.add.Reads as add'
use Rattle.board.proofs.calls.remove.Reads as remove'
use Rattle.board.proofs.calls.again.Reads as again'
use Rattle.board.proofs.calls.head.Reads as head'
use Rattle.board.proofs.calls.order.Reads as order'

pub make : Settled make'.Post × Same make'.Post (λ κs z e. e.0.now) × Same make'.Post (λ κs z e. e.1.0.now)
make = (
  same make'.Post _ _ (λ κs a z e p. p.0 [] []),
  same make'.Post _ _ (λ κs a z e p. ap (λ (m : Memory). m.lengths) (p.1 [] [])),
  same make'.Post _ _ (λ κs a z e p. ap (λ (m : Memory). m.state) (p.1 [] [])),
)

pub add :
    Settled add'.Post
    × Same add'.Post (λ κs z e. e.1.1.0.now)
    × Same add'.Post (λ κs z e. e.1.1.1.0.now)
    × Same add'.Post (λ κs z e. e.1.1.1.1.0.now)
    × Same add'.Post (λ κs z e. e.1.1.1.1.1.0.now)
add = (
  same add'.Post _ _ (λ κs a z e p. p.0),
  same add'.Post _ _ (λ κs a z e p. ap (λ (m : Memory). m.ready) p.1),
  same add'.Post _ _ (λ κs a z e p. ap (λ (m : Memory). m.lengths) p.1),
  same add'.Post _ _ (λ κs a z e p. ap (λ (m : Memory). m.keys) p.1),
  same add'.Post _ _ (λ κs a z e p. ap (λ (m : Memory). m.state) p.1),
)

pub remove : Settled remove'.Post × Same remove'.Post (λ κs z e. e.0.now) × Same remove'.Post (λ κs z e. e.1.0.now) × Same remove'.Post (λ κs z e. e.1.1.0.now)
remove = (
  same remove'.Post _ _ (λ κs a z e p. p.0 []),
  same remove'.Post _ _ (λ κs a z e p. ap (λ (m : Memory). m.lengths) (p.1 [])),
  same remove'.Post _ _ (λ κs a z e p. ap (λ (m : Memory). m.keys) (p.1 [])),
  same remove'.Post _ _ (λ κs a z e p. ap (λ (m : Memory). m.state) (p.1 [])),
)

pub again : Settled again'.Post × Same again'.Post (λ κs z e. e.1.1.0.now) × Same again'.Post (λ κs z e. e.1.1.1.0.now)
again = (
  same again'.Post _ _ (λ κs a z e p. p.0),
  same again'.Post _ _ (λ κs a z e p. ap (λ (m : Memory). m.keys) p.1),
  same again'.Post _ _ (λ κs a z e p. ap (λ (m : Memory). m.state) p.1),
)

pub head : Settled head'.Post
head = through head'.Post (λ κs. head_from) (λ κs. head_one) (same head'.Post _ _ (λ κs a z e p. p [] []))

pub order : Settled order'.Post × Same order'.Post (λ κs z e. e.1.1.0.now)
order = (
  same order'.Post _ _ (λ κs a z e p. p.0 [] []),
  same order'.Post _ _ (λ κs a z e p. p.1 [] []),
)
