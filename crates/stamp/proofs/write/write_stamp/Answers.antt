-- `stamp::write::write_stamp` meets its contract. Assumes nothing.
use native.Mathlib.Omega.{arith}
use borrow.Author.Tests.{le-leb}
use lib.ListN.{length}
use Rattle.stamp.specs.Stamps.{stamp_text, written_of}
use Rattle.stamp.proofs.write.write_stamp.Goals as goal

pub returns-clause-buffer : goal.returns-clause-buffer
unfolding written_of
returns-clause-buffer c =
    let args = c.args in
    rw (
      ← c.valid.ensures,
      c.if-not-valid.false,
      ← c.valid_offset.ensures,
      c.if-not-valid_offset.false,
      le-leb (length (stamp_text args.stamp)) (length args.out.now) (omega (arith, c.size-n.ensures, c.if-out-n.false)),
    ) c.put_stamp.ensures
