-- `shown::put_rest` meets its contract. Assumes nothing.
use native.Mathlib.Omega.{arith}
use Rattle.shown.proofs.Stored.{rest_length, rest_stored}
use Rattle.shown.proofs.put_rest.Goals as goal

pub put_spaced-year-requires : goal.put_spaced-year-requires
put_spaced-year-requires c = omega (arith, rest_length c.args.t)

pub put_spaced-link-requires : goal.put_spaced-link-requires
put_spaced-link-requires c = omega (arith, rest_length c.args.t)

pub put_bytes-requires : goal.put_bytes-requires
put_bytes-requires c = omega (arith, rest_length c.args.t)

pub overflow_add-link : goal.overflow_add-link
overflow_add-link c = omega (arith, rest_length c.args.t)

pub put_number-colon-requires : goal.put_number-colon-requires
put_number-colon-requires c = omega (arith, rest_length c.args.t)

pub put_pair-requires : goal.put_pair-requires
put_pair-requires c = omega (arith, rest_length c.args.t)

pub returns : goal.returns
returns c =
    let args = c.args in
    rw (
      c.put_pair.ensures,
      c.put_number-colon.ensures.1,
      c.put_bytes.ensures,
      c.put_spaced-link.ensures.1,
      c.put_spaced-year.ensures.1,
    )
    (rest_stored args.t args.out.now args.at c.put_spaced-year.result c.put_spaced-link.result c.put_number-colon.result
    c.put_spaced-year.ensures.0 c.put_spaced-link.ensures.0 c.put_number-colon.ensures.0)
