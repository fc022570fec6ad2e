-- The promises of `reader`. Assumes nothing.
use Rattle.settled.proofs.Settled.{Same, Settled, same}
use Rattle.reader.proofs.Lexer.new.Reads as new'
use Rattle.reader.proofs.Lexer.next.Reads as next'
use Rattle.reader.proofs.Lexer.behind.Reads as behind'
use Rattle.reader.proofs.Lexer.place.Reads as place'
use Rattle.reader.proofs.Lexer.unread.Reads as unread'
use Rattle.reader.proofs.lex.Reads as lex'

pub new : Settled new'.Post
new = same new'.Post _ _ (λ κs a z e p. p)

pub next : Settled next'.Post
next = same next'.Post _ _ (λ κs a z e p. p)

pub behind : Settled behind'.Post
behind = same behind'.Post _ _ (λ κs a z e p. p)

pub place : Settled place'.Post
place = same place'.Post _ _ (λ κs a z e p. p)

pub unread : Same unread'.Post (λ κs z e. z.now) × Same unread'.Post (λ κs z e. z.ref_ptr)
unread = (same unread'.Post _ _ (λ κs a z e p. p.0), same unread'.Post _ _ (λ κs a z e p. p.1))

pub lex : Settled lex'.Post × Same lex'.Post (λ κs z e. e.1.1.0.now) × Same lex'.Post (λ κs z e. e.1.1.1.0.now)
lex = (
  same lex'.Post _ _ (λ κs a z e p. p.0),
  same lex'.Post _ _ (λ κs a z e p. p.1.0),
  same lex'.Post _ _ (λ κs a z e p. p.1.1.0),
)
