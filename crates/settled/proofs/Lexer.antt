-- The promises of `lexer`. Assumes nothing.
use Rattle.settled.proofs.Settled.{Same, Settled, same}
use Rattle.lexer.proofs.reading.ReadingTryFromU32.try_from.Reads as try_from'
use Rattle.lexer.proofs.lex.token_at.Reads as token_at'
use Rattle.lexer.proofs.lex.lex.Reads as lex'
use Rattle.lexer.proofs.part.part.Reads as part'
use Rattle.lexer.proofs.part.offending.Reads as offending'
use Rattle.lexer.proofs.find.look_up.Reads as look_up'

pub token_at : Settled token_at'.Post
token_at = same token_at'.Post _ _ (λ κs a z e p. p)

pub try_from : Settled try_from'.Post
try_from = same try_from'.Post _ _ (λ κs a z e p. p)

pub lex : Settled lex'.Post × Same lex'.Post (λ κs z e. e.1.1.0.now) × Same lex'.Post (λ κs z e. e.1.1.1.0.now)
lex = (
  same lex'.Post _ _ (λ κs a z e p. p.0),
  same lex'.Post _ _ (λ κs a z e p. p.1.0),
  same lex'.Post _ _ (λ κs a z e p. p.1.1.0),
)

pub part : Same part'.Post (λ κs z e. z.now) × Same part'.Post (λ κs z e. z.ref_ptr)
part = (same part'.Post _ _ (λ κs a z e p. p.0), same part'.Post _ _ (λ κs a z e p. p.1))

pub offending : Same offending'.Post (λ κs z e. z.now) × Same offending'.Post (λ κs z e. z.ref_ptr)
offending = (same offending'.Post _ _ (λ κs a z e p. p.0), same offending'.Post _ _ (λ κs a z e p. p.1))

pub look_up : Settled look_up'.Post
look_up = same look_up'.Post _ _ (λ κs a z e p. p.0)
