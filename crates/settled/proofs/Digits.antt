-- The promises of `digits`. Assumes nothing.
use Rattle.settled.proofs.Settled.{Same, Settled, same}
use Rattle.digits.proofs.digit.is_digit.Reads as is_digit'
use Rattle.digits.proofs.digit.two.Reads as two'
use Rattle.digits.proofs.digit.value.Reads as value'
use Rattle.digits.proofs.digit.width.Reads as width'
use Rattle.digits.proofs.digit.with_digit.Reads as with_digit'
use Rattle.digits.proofs.form.of_form.Reads as of_form'
use Rattle.digits.proofs.put.put_bytes.Reads as put_bytes'
use Rattle.digits.proofs.put.put_digits.Reads as put_digits'
use Rattle.digits.proofs.put.put_number.Reads as put_number'
use Rattle.digits.proofs.put.put_pair.Reads as put_pair'

pub is_digit : Settled is_digit'.Post
is_digit = same is_digit'.Post _ _ (λ κs a z e p. p)

pub two : Settled two'.Post
two = same two'.Post _ _ (λ κs a z e p. p.0)

pub value : Settled value'.Post
value = same value'.Post _ _ (λ κs a z e p. p.0)

pub width : Settled width'.Post
width = same width'.Post _ _ (λ κs a z e p. p.0)

pub with_digit : Settled with_digit'.Post
with_digit = same with_digit'.Post _ _ (λ κs a z e p. p)

pub of_form : Settled of_form'.Post
of_form = same of_form'.Post _ _ (λ κs a z e p. p)

pub put_bytes : Same put_bytes'.Post (λ κs z e. e.0.now)
put_bytes = same put_bytes'.Post _ _ (λ κs a z e p. p)

pub put_digits : Same put_digits'.Post (λ κs z e. e.0.now)
put_digits = same put_digits'.Post _ _ (λ κs a z e p. p)

pub put_number : Settled put_number'.Post × Same put_number'.Post (λ κs z e. e.0.now)
put_number = (same put_number'.Post _ _ (λ κs a z e p. p.0), same put_number'.Post _ _ (λ κs a z e p. p.1))

pub put_pair : Same put_pair'.Post (λ κs z e. e.0.now)
put_pair = same put_pair'.Post _ _ (λ κs a z e p. p)
