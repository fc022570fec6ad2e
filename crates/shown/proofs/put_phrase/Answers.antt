-- `shown::put_phrase` meets its contract. Assumes nothing.
use mathlib.Core.Path.{◌≡◌, refl}
use mathlib.Core.List.{◌++◌}
use Prim.Native.Nat.{◌+◌}
use native.Mathlib.Nat.{zero-add}
use native.Mathlib.Omega.{arith}
use borrow.Author.Tests.{le-leb, lt-leb}
use lib.ListN.{length, length-append}
use Rattle.digits.proofs.Stores.{sets-append}
use Rattle.shown.specs.Phrases.{rest_text, phrase_text}
use Rattle.shown.proofs.put_phrase.Goals as goal

pub returns-then-out-n : goal.returns-then-out-n
unfolding phrase_text
returns-then-out-n c =
    let args = c.args in
    let name = c.month_name-name.result.now in
    let size = length-append name (rest_text args.t) in
    rw (← c.month_name-name.ensures.0, lt-leb (length (name ++ rest_text args.t)) (length args.out.now) (omega (arith, c.if-out-n.true, c.rest_size.ensures)))
    (record { value = refl; buffer = refl })

pub returns : goal.returns
unfolding phrase_text
returns c =
    let args = c.args in
    let name = c.month_name-name.result.now in
    let size = length-append name (rest_text args.t) in
    let sum : length name + c.rest_size.result ≡ length (name ++ rest_text args.t) = omega (arith, c.rest_size.ensures) in
    rw (← c.month_name-name.ensures.0, le-leb (length (name ++ rest_text args.t)) (length args.out.now) (omega (arith, c.if-out-n.false)))
    (record { value = rw sum; buffer = rw (c.put_rest.ensures, c.put_bytes.ensures, sets-append name (rest_text args.t), zero-add) })
